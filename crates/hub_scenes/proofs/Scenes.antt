-- The book of a new hub, and what a pass has seen behind a call.
use Rattle.std.proofs.Common.{◌≡◌, ◌⊎◌, ⊎_elim, ℕ, List, Some, Result, refl, sym, subst}
use Rattle.srv_edge.specs.declared.failed.Limits.{Limits}
use Rattle.srv_edge.specs.declared.failed.Refusal.{Refusal}
use Rattle.turnstile.specs.Histories.{Begins}
use Rattle.turnstile.specs.Passes.{PassView}
use Rattle.turnstile.proofs.Beginnings.{begins_more}
use Rattle.table_model.specs.declared.call.Call.{Call}
use Rattle.table_model.specs.declared.call.Outcome.{Outcome}
use Rattle.table_model.specs.Bounds.{bounds_of}
use Rattle.table_model.specs.Tables.{Tables}
use Rattle.type_store.specs.Files.{FileView}
use Rattle.type_store.specs.Opened.{IsOpened}
use Rattle.hub.specs.Books.{BookView}
use Rattle.hub.specs.Ends.{IsNew}
use Rattle.hub.specs.Passes.{IsAnswered, IsRefused}

pub seen_asked : {A : Type 0} {p q : PassView} {call : Call} {reply : Result Outcome Refusal} {result : Result A Refusal} → IsAnswered p q call reply ⊎ IsRefused p q result → Begins p.seen q.seen
seen_asked {A} {p} {q} {call} {reply} {result} told =
    ⊎_elim (λ (i : IsAnswered p q call reply). subst (Begins p.seen) (sym i.seen) (begins_more p.seen i.before i.entry i.first)) (λ (i : IsRefused p q result). i.first) told

pub new_book : {D : Type 0} (limits : Limits) (file : FileView D) (tables : Tables) (seen : List ℕ) (book : BookView D) → book ≡ record { tables = tables; file = Some file; acked = file.last } → IsOpened (bounds_of limits) seen file tables → IsNew limits file book
new_book limits file tables seen book is opened = subst (IsNew limits file) (sym is) (record { there = refl; seen = seen; opened = opened; acked = refl })
