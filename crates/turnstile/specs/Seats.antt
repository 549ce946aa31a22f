-- The turnstile's table and the seats at it, as the functions inside see them.
use Rattle.std.specs.Prelude.{◌≡◌, ℕ, ◌%◌, ◌^◌, []}
use Rattle.atomic_table.specs.Table.{Me}
use Rattle.atomic_table.specs.Seated.{TableId}
use Rattle.atomic_table.specs.declared.shared.Seat.{Seat}
use Rattle.turnstile.specs.declared.view.Place.{Place}
use Rattle.turnstile.specs.declared.view.Role.TheVariants.{Caller}
use Rattle.turnstile.specs.declared.view.Stage.TheVariants.{Waiting}
use Rattle.turnstile.specs.declared.view.View.{View}

-- the table has three words, a bell and one slot
abbrev pub IsGate : TableId → Type 0
IsGate z = (z.words ≡ 4) × (z.slots ≡ 1)

module _ {V : Type 0} where
  -- a seat at this table
  abbrev pub IsAt : TableId → Seat (Place V) View → Type 0
  IsAt z s = (s.table_id ≡ z) × IsGate z

  abbrev pub IsSameSeat : Seat (Place V) View → Seat (Place V) View → Type 0
  IsSameSeat s t = (t.table_id ≡ s.table_id) × (t.id ≡ s.id)

  -- the seat of a pass that waits with the ticket which the word shows as this number
  pub record IsWaiting (shown : ℕ) (me : Me (Place V) View) : Type 0 where
    pub ticket : ℕ
    pub waits : me.0.stage ≡ Waiting ticket
    pub shows : shown ≡ ticket % 2 ^ 64
    pub empty : me.1 ≡ []
    pub number : ℕ
    pub caller : me.0.role ≡ Caller number
