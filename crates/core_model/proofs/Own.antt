-- What a call does for the pass that makes it, and what an event leaves to all others.
use Rattle.std.proofs.Common.{◌≡◌, ◌≢◌, ◌-◌, ◌^◌, ◌==◌, ℕ, Bool, true, cond, ltb, List, [], ◌∷◌, ◌++◌, Option, Some, None, refl, sym, ap, ◌∙◌, subst}
use Rattle.std.specs.Prelude.{◌&&◌, is_none}
use Rattle.std.specs.Option.{option_to_list}
use Rattle.std.proofs.lemmas.Bool.{and_from, eq-eqb, eqb-true, ne_eqb}
use Rattle.std.proofs.lemmas.List.{append-nil}
use Rattle.turnstile.specs.declared.history.Entry.{Entry}
use Rattle.record_table.specs.Table as records
use Rattle.names_table.specs.Names as strings
use Rattle.srv_edge.specs.declared.failed.Refusal.TheVariants.{NotGiven}
use Rattle.call_journal.specs.declared.deed.Deed.{Deed}
use Rattle.call_journal.specs.declared.deed.Deed.TheVariants.{Asked, Counted}
use Rattle.call_journal.specs.declared.deed.TableKind.TheVariants.{Types, Items, Names}
use Rattle.table_model.specs.declared.call.Call.{Call}
use Rattle.table_model.specs.declared.call.Call.TheVariants.{GetType, GetItem, GetName, Counts}
use Rattle.table_model.specs.Calls.{answer, bytes_answer, is_call}
use Rattle.core_model.specs.Law.{entries_of}
use Rattle.core_model.specs.Entries.{entry_of, entry_of_call, entry_of_read}
use Rattle.core_model.specs.Events.{Event, asks_commit, begins, calls, calls_device, crashes, dies, ends, reopens, whose}
use Rattle.core_model.specs.Files.{Commit, Phase, done, failed, resolving, resolving_sync, switching, switching_sync, writing}
use Rattle.core_model.specs.Passes.{Knowledge, is_pass, with_view}
use Rattle.core_model.specs.World.{World, after_beginning, after_call, after_end, after_end_in, with_entry, with_entry_or_look, number_now, after_refusal, run, step, step_from, tables_now}
use Rattle.core_model.proofs.Later.{seen_worked}
use Rattle.core_model.proofs.Running.{chosen}

-- a call of a pass

own_view : (views : ℕ → Knowledge) (c : ℕ) (v : Knowledge) → with_view views c v c ≡ v
own_view views c v = ap (λ t. cond t v (views c)) (eq-eqb c c refl)

step_called : (w : World) (c : ℕ) (call : Call) → w.crash ≡ None → is_pass c ≡ true → is_call call ≡ true → step w (calls c call) ≡ after_call w c call
step_called w c call up pass is = ap (λ o. step_from o w (calls c call)) up ∙ ap (λ t. cond t (after_call w c call) w) (and_from (is_pass c) (is_call call) pass is)

filed_history : (w : World) (c : ℕ) (o : Option Entry) → (with_entry_or_look w c o).history ≡ w.history ++ option_to_list o
filed_history w c None = sym (append-nil w.history)
filed_history w c (Some e) = refl

filed_mine : (w : World) (c : ℕ) (o : Option Entry) → ((with_entry_or_look w c o).views c).mine ≡ (w.views c).mine ++ option_to_list o
filed_mine w c None = ap (λ (v : Knowledge). v.mine) (own_view w.views c (record { seen = w.history; mine = (w.views c).mine })) ∙ sym (append-nil (w.views c).mine)
filed_mine w c (Some e) = ap (λ (v : Knowledge). v.mine) (own_view w.views c (record { seen = w.history ++ e ∷ []; mine = (w.views c).mine ++ e ∷ [] }))

pub filed_seen : (w : World) (c : ℕ) (o : Option Entry) → ((with_entry_or_look w c o).views c).seen ≡ (with_entry_or_look w c o).history
filed_seen w c None = ap (λ (v : Knowledge). v.seen) (own_view w.views c (record { seen = w.history; mine = (w.views c).mine }))
filed_seen w c (Some e) = ap (λ (v : Knowledge). v.seen) (own_view w.views c (record { seen = w.history ++ e ∷ []; mine = (w.views c).mine ++ e ∷ [] }))

pub answered : (w : World) (c : ℕ) (call : Call) → w.crash ≡ None → is_pass c ≡ true → is_call call ≡ true → (step w (calls c call)).history ≡ w.history ++ entries_of w c call
answered w c call up pass is = ap (λ (v : World). v.history) (step_called w c call up pass is) ∙ filed_history w c (entry_of_call c call (answer (tables_now w) call))

pub own : (w : World) (c : ℕ) (call : Call) → w.crash ≡ None → is_pass c ≡ true → is_call call ≡ true → ((step w (calls c call)).views c).mine ≡ (w.views c).mine ++ entries_of w c call
own w c call up pass is = ap (λ (v : World). (v.views c).mine) (step_called w c call up pass is) ∙ filed_mine w c (entry_of_call c call (answer (tables_now w) call))

pub sees : (w : World) (c : ℕ) (call : Call) → w.crash ≡ None → is_pass c ≡ true → is_call call ≡ true → ((step w (calls c call)).views c).seen ≡ (step w (calls c call)).history
sees w c call up pass is = subst (λ (v : World). (v.views c).seen ≡ v.history) (sym (step_called w c call up pass is)) (filed_seen w c (entry_of_call c call (answer (tables_now w) call)))

-- a get or counts is kept, whatever it is answered

read_kept : (c : ℕ) (deed : Deed) (found : Option (List ℕ)) (space index : ℕ) → entry_of_read c deed (bytes_answer found (NotGiven space index)) ≡ Some (entry_of c deed [])
read_kept c deed None space index = refl
read_kept c deed (Some bytes) space index = refl

kept_as : (w : World) (c : ℕ) (call : Call) (e : Entry) → w.crash ≡ None → is_pass c ≡ true → is_call call ≡ true → entry_of_call c call (answer (tables_now w) call) ≡ Some e → (step w (calls c call)).history ≡ w.history ++ e ∷ []
kept_as w c call e up pass is eq = answered w c call up pass is ∙ ap (λ o. w.history ++ option_to_list o) eq

pub gets_type : (w : World) (c index : ℕ) → w.crash ≡ None → is_pass c ≡ true → is_call (GetType index) ≡ true → (step w (calls c (GetType index))).history ≡ w.history ++ entry_of c (Asked Types index) [] ∷ []
gets_type w c index up pass is = kept_as w c (GetType index) _ up pass is (read_kept c (Asked Types index) (records.record_at (tables_now w).types index) 0 index)

pub gets_item : (w : World) (c index : ℕ) → w.crash ≡ None → is_pass c ≡ true → is_call (GetItem index) ≡ true → (step w (calls c (GetItem index))).history ≡ w.history ++ entry_of c (Asked Items index) [] ∷ []
gets_item w c index up pass is = kept_as w c (GetItem index) _ up pass is (read_kept c (Asked Items index) (records.record_at (tables_now w).items index) 1 index)

pub gets_name : (w : World) (c offset : ℕ) → w.crash ≡ None → is_pass c ≡ true → is_call (GetName offset) ≡ true → (step w (calls c (GetName offset))).history ≡ w.history ++ entry_of c (Asked Names offset) [] ∷ []
gets_name w c offset up pass is = kept_as w c (GetName offset) _ up pass is (read_kept c (Asked Names offset) (strings.name_at (tables_now w).names offset) 2 offset)

pub counts : (w : World) (c : ℕ) → w.crash ≡ None → is_pass c ≡ true → (step w (calls c Counts)).history ≡ w.history ++ entry_of c Counted [] ∷ []
counts w c up pass = kept_as w c Counts _ up pass refl refl

-- all others

other_view : (views : ℕ → Knowledge) (c : ℕ) (v : Knowledge) (d : ℕ) → c ≢ d → with_view views c v d ≡ views d
other_view views c v d other = ap (λ t. cond t v (views d)) (ne_eqb d c (λ same. other (sym same)))

others_filed : (w : World) (c : ℕ) (e : Entry) (d : ℕ) → c ≢ d → (with_entry w c e).views d ≡ w.views d
others_filed w c e d other = other_view w.views c (record { seen = w.history ++ e ∷ []; mine = (w.views c).mine ++ e ∷ [] }) d other

others_called : (w : World) (c : ℕ) (o : Option Entry) (d : ℕ) → c ≢ d → (with_entry_or_look w c o).views d ≡ w.views d
others_called w c None d other = other_view w.views c (record { seen = w.history; mine = (w.views c).mine }) d other
others_called w c (Some e) d other = others_filed w c e d other

others_refused : (w : World) (c : ℕ) (o : Option Commit) (d : ℕ) → c ≢ d → (after_refusal w c o).views d ≡ w.views d
others_refused w c None d other = other_view w.views c (record { seen = w.history; mine = (w.views c).mine }) d other
others_refused w c (Some k) d other = others_filed w c _ d other

others_ended_in : (w : World) (k : Commit) (phase : Phase) (d : ℕ) → k.caller ≢ d → (after_end_in w k phase).views d ≡ w.views d
others_ended_in w k done d other = others_filed w k.caller _ d other
others_ended_in w k failed d other = others_filed w k.caller _ d other
others_ended_in w k resolving d other = refl
others_ended_in w k resolving_sync d other = refl
others_ended_in w k writing d other = refl
others_ended_in w k switching d other = refl
others_ended_in w k switching_sync d other = refl

others_if : (t : Bool) (v w : World) (d : ℕ) → (t ≡ true → v.views d ≡ w.views d) → (cond t v w).views d ≡ w.views d
others_if t v w d same = chosen (λ u. u.views d ≡ w.views d) t v w same refl

others_ended : (w : World) (c : ℕ) (o : Option Commit) (d : ℕ) → c ≢ d → (after_end w c o).views d ≡ w.views d
others_ended w c None d other = refl
others_ended w c (Some k) d other = others_if (k.caller == c) (after_end_in w k k.phase) w d (λ t. others_ended_in w k k.phase d (λ same. other (sym (eqb-true k.caller c t) ∙ same)))

others_run : (w : World) (event : Event) (d : ℕ) → whose event ≢ Some d → (run w event).views d ≡ w.views d
others_run w (calls c call) d other = others_if (is_pass c && is_call call) (after_call w c call) w d (λ t. others_called w c (entry_of_call c call (answer (tables_now w) call)) d (λ same. other (ap Some same)))
others_run w (asks_commit c) d other = others_if (is_pass c) (after_refusal w c w.commit) w d (λ t. others_refused w c w.commit d (λ same. other (ap Some same)))
others_run w (begins c) d other = others_if (is_pass c && is_none w.commit && ltb (number_now w) (2 ^ 32 - 1)) (after_beginning w c) w d (λ t. others_filed w c _ d (λ same. other (ap Some same)))
others_run w (calls_device call ok) d other = ap (λ views. views d) (seen_worked w w.commit call ok)
others_run w (ends c) d other = others_ended w c w.commit d (λ same. other (ap Some same))
others_run w (dies c) d other = refl
others_run w (crashes which) d other = refl
others_run w (reopens numbers) d other = refl

pub others : (w : World) (event : Event) (d : ℕ) → w.crash ≡ None → whose event ≢ Some d → (step w event).views d ≡ w.views d
others w event d up other = ap (λ o. (step_from o w event).views d) up ∙ others_run w event d other
