-- How things stand behind a longer history, and when one is legal.
use Rattle.std.proofs.Common.{◌≡◌, List, [], ◌∷◌, ◌++◌, ◌⊎◌, inl, inr, ⊎_elim, refl, sym, ap, ◌∙◌, subst}
use Rattle.std.proofs.lemmas.List.{append_assoc}
use Rattle.turnstile.specs.declared.history.Entry.{Entry}
use Rattle.turnstile.specs.declared.history.Basis.{Basis}
use Rattle.turnstile.specs.Histories.{Begins}
use Rattle.core_model.specs.History.{Fits, IsLegal, Standing, after_entries, after_entry, opening, standing}

after_append : (s : Standing) (a b : List Entry) → after_entries s (a ++ b) ≡ after_entries (after_entries s a) b
after_append s [] b = refl
after_append s (e ∷ a) b = after_append (after_entry s e) a b

-- how things stand behind one entry more
pub standing_more : (b : Basis) (h : List Entry) (e : Entry) → standing b (h ++ e ∷ []) ≡ after_entry (standing b h) e
standing_more b h e = after_append (opening b) h (e ∷ [])

-- how things stand behind a history that goes on
pub standing_on : (b : Basis) (h more : List Entry) → standing b (h ++ more) ≡ after_entries (standing b h) more
standing_on b h more = after_append (opening b) h more

-- Where an entry stands in a history of one entry more: it is the last, or it stands in the history before.
pub place_in_more : (h before rest : List Entry) (e d : Entry) → h ++ e ∷ [] ≡ before ++ d ∷ rest → ((before ≡ h) × (d ≡ e)) ⊎ ((more : List Entry) × (h ≡ before ++ d ∷ more))
place_in_more [] [] rest e d eq = inl (refl, cc)
place_in_more [] (x ∷ []) rest e d eq = absurd (cc)
place_in_more [] (x ∷ y ∷ before) rest e d eq = absurd (cc)
place_in_more (x ∷ h) [] rest e d eq = let same : x ≡ d = cc in inr (h, ap (λ y. y ∷ h) same)
place_in_more (x ∷ h) (y ∷ before) rest e d eq =
    let same : x ≡ y = cc in
    let tails : h ++ e ∷ [] ≡ before ++ d ∷ rest = cc in
    ⊎_elim (λ p. let q : before ≡ h = p.0 in inl (cc, p.1)) (λ p. let q : h ≡ before ++ d ∷ p.0 = p.1 in inr (p.0, cc)) (place_in_more h before rest e d tails)

pub legal_nothing : (b : Basis) → IsLegal b []
legal_nothing b = record { fits = go } where
  go : (before : List Entry) (e : Entry) (rest : List Entry) → [] ≡ before ++ e ∷ rest → Fits (standing b before) e
  go [] e rest eq = absurd (cc)
  go (x ∷ before) e rest eq = absurd (cc)

pub legal_more : (b : Basis) (h : List Entry) (e : Entry) → IsLegal b h → Fits (standing b h) e → IsLegal b (h ++ e ∷ [])
legal_more b h e l f = record { fits = go } where
  go : (before : List Entry) (d : Entry) (rest : List Entry) → h ++ e ∷ [] ≡ before ++ d ∷ rest → Fits (standing b before) d
  go before d rest eq =
      ⊎_elim (λ p. subst (λ z. Fits (standing b z) d) (sym p.0) (subst (Fits (standing b h)) (sym p.1) f)) (λ p. l.fits before d p.0 p.1) (place_in_more h before rest e d eq)

-- every beginning of a legal history is legal
pub legal_before : (b : Basis) (short long : List Entry) → IsLegal b long → Begins short long → IsLegal b short
legal_before b short long l s = record { fits = λ before e rest eq. l.fits before e (rest ++ s.rest) (s.whole ∙ ap (λ z. z ++ s.rest) eq ∙ append_assoc before (e ∷ rest) s.rest) }
