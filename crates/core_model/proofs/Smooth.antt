-- A commit that meets no failure is acknowledged.
use Rattle.std.proofs.Common.{◌≡◌, ◌<◌, ◌^◌, ◌+◌, ◌-◌, ℕ, zero, suc, true, List, [], ◌∷◌, ◌++◌, Some, None, refl, sym, ap, ◌∙◌, subst}
use Rattle.std.proofs.lemmas.Bool.{eq-eqb}
use Rattle.std.proofs.lemmas.List.{append_assoc}
use Rattle.turnstile.specs.declared.history.Basis.{Basis}
use Rattle.turnstile.specs.declared.history.Entry.{Entry}
use Rattle.call_journal.specs.declared.deed.Deed.TheVariants.{Began, Ended}
use Rattle.table_model.specs.Cut.{Cut}
use Rattle.core_model.specs.Entries.{entry_of}
use Rattle.core_model.specs.Events.{Event, calls_device, ends}
use Rattle.core_model.specs.Files.{File, Phase, doubt, first_phase, settled, sync, write_super, writing}
use Rattle.core_model.specs.Law.{next_cut, settling_calls, smooth_commit, writes}
use Rattle.core_model.specs.Passes.{Knowledge, is_pass}
use Rattle.core_model.specs.World.{World, after_beginning, with_entry, number_now, steps}
use Rattle.core_model.proofs.Committing.{step_begun}

-- a world in which a commit is under way, and no crash has come
abbrev under_way : Basis → List Entry → (ℕ → Knowledge) → ℕ → Cut → Phase → File → World
under_way b h views c cut phase file = record { basis = b; history = h; views = views; commit = Some (record { caller = c; cut = cut; phase = phase }); file = file; crash = None }

-- what stands behind the calls that settle the file
abbrev ending : ℕ → ℕ → List Event
ending blocks c = writes blocks ++ calls_device sync true ∷ calls_device write_super true ∷ calls_device sync true ∷ ends c ∷ []

-- the history has the end, acknowledged, and the file is settled on the cut
record IsAcknowledging (h : List Entry) (c : ℕ) (cut : Cut) (v : World) : Type 0 where
  history : v.history ≡ h ++ entry_of c (Ended cut.number true) [] ∷ []
  file : v.file ≡ settled cut

ended_so : (b : Basis) (h : List Entry) (views : ℕ → Knowledge) (c : ℕ) (cut : Cut) (blocks : ℕ) (file : File) → IsAcknowledging h c cut (steps (under_way b h views c cut writing file) (ending blocks c))
ended_so b h views c cut zero file = rw (eq-eqb c c refl) (record { history = refl; file = refl })
ended_so b h views c cut (suc blocks) file = ended_so b h views c cut blocks file

resolved_so : (b : Basis) (h : List Entry) (views : ℕ → Knowledge) (c : ℕ) (cut : Cut) (blocks : ℕ) (file : File) → IsAcknowledging h c cut (steps (under_way b h views c cut (first_phase file) file) (settling_calls file ++ ending blocks c))
resolved_so b h views c cut blocks (settled x) = ended_so b h views c cut blocks (settled x)
resolved_so b h views c cut blocks (doubt x p) = ended_so b h views c cut blocks (settled p)

pub record IsSmooth (w : World) (c : ℕ) (v : World) : Type 0 where
  pub history : v.history ≡ w.history ++ entry_of c (Began (next_cut w).number) [] ∷ entry_of c (Ended (next_cut w).number true) [] ∷ []
  pub file : v.file ≡ settled (next_cut w)

pub smooth : (w : World) (c blocks : ℕ) → w.crash ≡ None → is_pass c ≡ true → w.commit ≡ None → number_now w < 2 ^ 32 - 1 → IsSmooth w c (steps w (smooth_commit w.file blocks c))
smooth w c blocks up pass idle few = subst (IsSmooth w c) (sym (ap (λ v. steps v rest) (step_begun w c up pass idle few ∙ seen))) (record { history = last.history ∙ append_assoc w.history (e ∷ []) (entry_of c (Ended (number_now w + 1) true) [] ∷ []); file = last.file }) where
  rest : List Event
  rest = settling_calls w.file ++ ending blocks c

  e : Entry
  e = entry_of c (Began (number_now w + 1)) []

  v : World
  v = under_way w.basis (w.history ++ e ∷ []) (with_entry w c e).views c (next_cut w) (first_phase w.file) w.file

  seen : after_beginning w c ≡ v
  seen = ap (λ o. record v { crash = o }) up

  last : IsAcknowledging (w.history ++ e ∷ []) c (next_cut w) (steps v rest)
  last = resolved_so w.basis (w.history ++ e ∷ []) (with_entry w c e).views c (next_cut w) blocks w.file
