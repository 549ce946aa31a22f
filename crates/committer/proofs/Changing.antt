-- A change that came to a device, and what a store keeps then.
use Rattle.std.proofs.Common.{◌≡◌, ◌≤◌, ◌⊎◌, ℕ, Bool, IsTrue, List, ◌∷◌, [], drop, length, map, Option, Some, None, true, false, refl, sym, subst, ap, ◌∙◌, inl, inr, arith}
use Rattle.std.proofs.lemmas.List.{length-map}
use Rattle.srv_edge.specs.Disk.{LeavesOnly}
use Rattle.srv_edge.proofs.Moments.{weaker}
use Rattle.std.specs.Prelude.{Result, Ok, Err, OnErr, is_some}
use Rattle.msf_blocks.specs.Superblock.{superblock_text}
use Rattle.msf_image.specs.declared.image.Image.{Image}
use Rattle.msf_image.specs.Reads.{IsWhole}
use Rattle.msf_image.specs.Relation.{Reads, contents_in, stream_in}
use Rattle.msf_image.proofs.Sparing.{headed_contents}
use Rattle.cow_streams.specs.Planned.{Planned}
use Rattle.committer.specs.Change.{Change, IsEither, IsNew, IsOld, IsReady}
use Rattle.committer.specs.Stored.{File, IsAlike, IsDoubt, IsIn, IsSettled, IsSettledFile, Shows, base_of, change_in, doubt, file_of, newest, settled, settled_file}
use Rattle.committer.specs.Left.{IsOnNewest, IsPut, ShowsEither, file_after}
use Rattle.committer.specs.Writing.{CanPut, CanTurn, IsPlanned, file_with}
use Rattle.committer.proofs.Steps.{length-text}

-- a call that answered a fault leaves this
pub on_err : {A E P : Type 0} (r : Result A E) → P → OnErr r P
on_err (Ok x) p = tt
on_err (Err e) p = p

-- ---- what the streams hold then

-- the streams of both images hold what they held, and what is to come
pub held : (change : Change) (new : Image) (c : List ℕ) → IsWhole new → IsReady change new c ⊎ IsNew change new c → (contents_in c change.image ≡ change.contents) × (contents_in c new ≡ change.next)
held change new c whole is =
    elim is [
      | inl ready ↦ (sym ready.0.contents, sym (headed_contents new c (superblock_text new.head) whole (length-text new.head)) ∙ sym ready.1.0.contents)
      | inr turned ↦ (turned.1, sym turned.0.contents)
    ]

-- the change as a read tells it then
same_change : (change : Change) (new : Image) (seen : List ℕ) → contents_in seen change.image ≡ change.contents → contents_in seen new ≡ change.next → change ≡ change_in change.limit change.image new seen
same_change change new seen old next =
    let made : List (Option (List ℕ)) → List (Option (List ℕ)) → Change = λ xs ys. record { limit = change.limit; image = change.image; contents = xs; next = ys } in
    sym (ap (λ xs. made xs (contents_in seen new)) old ∙ ap (made change.contents) next)

module _ (change : Change) (new : Image) (seen : List ℕ) (images : List ℕ → Type 0) (there : (c : List ℕ) → images c → images seen) where
  -- the change is not there yet
  pub old_settled : IsWhole change.image → change.image.head.blocks ≤ change.limit → ((c : List ℕ) → images c → IsOld change c) → IsSettled change.limit change.image seen images
  old_settled whole limited is = record {
    whole = whole;
    limited = limited;
    reads = λ c now. subst (Reads c change.limit change.image) (is seen (there c now)).contents (is c now);
  }

  -- it is there
  pub new_settled : IsWhole new → new.head.blocks ≤ change.limit → ((c : List ℕ) → images c → IsNew change new c) → IsSettled change.limit new seen images
  new_settled whole limited is = record {
    whole = whole;
    limited = limited;
    reads = λ c now. subst (Reads c change.limit new) (is seen (there c now)).0.contents (is c now).0;
  }

  -- it may be there or not
  pub in_doubt : IsWhole change.image → IsWhole new → new.head.blocks ≤ change.limit → IsAlike change.image new → ((c : List ℕ) → images c → IsReady change new c ⊎ IsNew change new c) → IsDoubt change.limit change.image new seen images
  in_doubt old_whole whole limited alike is = record {
    whole = whole;
    limited = limited;
    base_whole = old_whole;
    alike = alike;
    reads = λ c now.
        let has = held change new seen whole (is seen (there c now)) in
        subst (λ change. IsReady change new c ⊎ IsNew change new c) (same_change change new seen has.0 has.1) (is c now);
  }

-- ---- a pending superblock that is written again

module _ (limit : ℕ) (image : Image) (seen : List ℕ) (images : List ℕ → Type 0) where
  -- a file in doubt
  pub doubt_turns : (before : Option Image) → is_some before ≡ true → IsIn limit (file_of before image) seen images → CanTurn (change_in limit (base_of (file_of before image)) image seen) image images
  doubt_turns None some is = absurd cc
  doubt_turns (Some base) some is = record { old_whole = is.base_whole; now = is.reads }

  pub doubt_shows : (before : Option Image) → is_some before ≡ true → (c : List ℕ) → IsEither (change_in limit (base_of (file_of before image)) image seen) image c → Shows limit (file_of before image) seen c
  doubt_shows None some c is = absurd cc
  doubt_shows (Some base) some c is = elim is [ inl old ↦ inl old | inr turned ↦ inr turned.0 ]

  -- one that stays so
  pub doubt_stays : (before : Option Image) → is_some before ≡ true → IsIn limit (file_of before image) seen images → (seen' : List ℕ) (images' : List ℕ → Type 0) → ((c : List ℕ) → images' c → images' seen')
      → ((c : List ℕ) → images' c → IsReady (change_in limit (base_of (file_of before image)) image seen) image c ⊎ IsNew (change_in limit (base_of (file_of before image)) image seen) image c) → IsIn limit (file_of before image) seen' images'
  doubt_stays None some is seen' images' there reads = absurd cc
  doubt_stays (Some base) some is seen' images' there reads =
      in_doubt (change_in limit base image seen) image seen' images' there is.base_whole is.whole is.limited is.alike reads

-- ---- a plan that is written into a settled file

abbrev pub put_change : ℕ → Image → List ℕ → Planned → Change
put_change limit image seen plan =
    record { limit = limit; image = image; contents = contents_in seen image; next = contents_in (file_with seen plan) plan.image }

pub settled_puts : (limit : ℕ) (image : Image) (seen : List ℕ) (images : List ℕ → Type 0) (plan : Planned) → IsSettled limit image seen images → IsPlanned limit image plan → CanPut (put_change limit image seen plan) plan seen images
settled_puts limit image seen images plan is planned = record { old_whole = is.whole; planned = planned; next = λ c now. refl; now = is.reads }

pub none_before : (before : Option Image) (image : Image) → IsSettledFile (file_of before image) → before ≡ None
none_before None image is = refl
none_before (Some base) image is = absurd cc

-- ---- what a write that failed leaves of a settled file

module _ (tells : Bool) (limit : ℕ) (image : Image) (seen : List ℕ) (plan : Planned) (after : List ℕ) where
  pub put_settled : (IsTrue tells → IsOld (put_change limit image seen plan) after) → IsPut tells (settled image) seen plan (settled image) after
  put_settled old = inl (record { is = refl; contents = λ told. sym (old told).contents })

  pub put_doubt : IsWhole plan.image → (IsTrue tells → IsReady (put_change limit image seen plan) plan.image after ⊎ IsNew (put_change limit image seen plan) plan.image after) → IsPut tells (settled image) seen plan (doubt image plan.image) after
  put_doubt whole either =
      inr (record {
        is = refl;
        contents = λ told. (held (put_change limit image seen plan) plan.image after whole (either told)).0;
        next = λ told. (held (put_change limit image seen plan) plan.image after whole (either told)).1;
      })

-- ---- settled first, and then written

pub newest_shows : (limit : ℕ) (file : File) (seen c : List ℕ) → Reads c limit (newest file) (contents_in seen (newest file)) → Shows limit file seen c
newest_shows limit (settled image) seen c reads = reads
newest_shows limit (doubt base pending) seen c reads = inr reads

-- from the file as it was at first to the planned image
abbrev pub write_change : ℕ → File → List ℕ → Planned → Change
write_change limit old seen plan =
    record { limit = limit; image = newest old; contents = contents_in seen (newest old); next = contents_in (file_after old seen plan) plan.image }

module _ (tells : Bool) (limit : ℕ) (old : File) (first : List ℕ) (mid : File) (seen : List ℕ) (plan : Planned) (done : IsOnNewest tells old first mid seen) (same : IsTrue tells → seen ≡ settled_file old first) where
  pub put_behind : (file : File) (after : List ℕ) → IsPut tells mid seen plan file after → IsPut tells old first plan file after
  put_behind file after put =
      let at : IsPut tells (settled (newest old)) seen plan file after = subst (λ f. IsPut tells f seen plan file after) done.is put in
      elim at [
        | inl on ↦ inl (record { is = on.is; contents = λ told. on.contents told ∙ done.contents told })
        | inr d ↦
            inr (record {
              is = d.is;
              contents = λ told. d.contents told ∙ done.contents told;
              next = λ told. d.next told ∙ ap (λ f. contents_in (file_with f plan) plan.image) (same told);
            })
      ]

  pub written_behind : IsTrue tells → file_after mid seen plan ≡ file_after old first plan
  written_behind told = ap (λ f. file_after f seen plan) done.is ∙ ap (λ f. file_with f plan) (same told)

  pub write_puts : (images : List ℕ → Type 0) → ((c : List ℕ) → images c → IsTrue tells) → IsSettled limit (newest old) seen images → IsPlanned limit (newest old) plan → CanPut (write_change limit old first plan) plan seen images
  write_puts images told ready planned = record {
    old_whole = ready.whole;
    planned = planned;
    next = λ c now. sym (ap (λ f. contents_in (file_with f plan) plan.image) (same (told c now)));
    now = λ c now. subst (Reads c limit (newest old)) (done.contents (told c now)) (ready.reads c now);
  }

  pub either_shows : (c : List ℕ) → IsEither (write_change limit old first plan) plan.image c → ShowsEither limit old first plan c
  either_shows c is = elim is [ inl reads ↦ inl (newest_shows limit old first c reads) | inr turned ↦ inr turned.0 ]

-- ---- a device that does not tell its content

-- a change over contents that are more than an image has, so that no file is as before it, nor as after it
abbrev pub no_change : ℕ → Image → List ℕ → Change
no_change limit image seen = record { limit = limit; image = image; contents = None ∷ contents_in seen image; next = [] }

none_other : (image : Image) (seen c : List ℕ) → (None ∷ contents_in seen image) ≡ contents_in c image → ⊥
none_other image seen c is = omega (arith, ap length is, length-map (drop 1 image.directory) (stream_in seen image.head), length-map (drop 1 image.directory) (stream_in c image.head))

none_either : (limit : ℕ) (image new : Image) (seen c : List ℕ) → IsEither (no_change limit image seen) new c → ⊥
none_either limit image new seen c is = elim is [ inl old ↦ none_other image seen c old.contents | inr turned ↦ none_other image seen c (sym turned.1) ]

module _ {D : Type 0} (moment : D → ℕ) (left_since : D → ℕ → List ℕ → Type 0) (limit : ℕ) (images : List ℕ → Type 0) (seen : List ℕ) (old new : D) where
  -- it leaves nothing while a superblock is written
  pub told_turning : (tells : Bool) (P : List ℕ → Type 0) (image : Image) → ((c : List ℕ) → images c → IsTrue tells) → IsWhole image → LeavesOnly moment left_since old new P
      → ((change : Change) → CanTurn change image images → LeavesOnly moment left_since old new (IsEither change image)) → LeavesOnly moment left_since old new (λ _. IsTrue tells)
  told_turning true P image told whole run each = weaker moment left_since old new P (λ _. IsTrue true) run (λ c is. refl)
  told_turning false P image told whole run each =
      let change = no_change limit image seen in
      weaker moment left_since old new (IsEither change image) (λ _. IsTrue false)
      (each change (record { old_whole = whole; now = λ c now. absurd (let no : false ≡ true = told c now in cc) }))
      (λ c is. absurd (none_either limit image image seen c is))

  -- nor while a plan is
  pub told_putting : (tells : Bool) (image : Image) (plan : Planned) → ((c : List ℕ) → images c → IsTrue tells) → IsWhole image → IsPlanned limit image plan → (P : List ℕ → Type 0) → LeavesOnly moment left_since old new P
      → ((change : Change) → CanPut change plan seen images → LeavesOnly moment left_since old new (IsEither change plan.image)) → LeavesOnly moment left_since old new (λ _. IsTrue tells)
  told_putting true image plan told whole planned P run each = weaker moment left_since old new P (λ _. IsTrue true) run (λ c is. refl)
  told_putting false image plan told whole planned P run each =
      let change = no_change limit image seen in
      weaker moment left_since old new (IsEither change plan.image) (λ _. IsTrue false)
      (each change (record { old_whole = whole; planned = planned; next = λ c now. absurd (let no : false ≡ true = told c now in cc); now = λ c now. absurd (let no : false ≡ true = told c now in cc) }))
      (λ c is. absurd (none_either limit image plan.image seen c is))
