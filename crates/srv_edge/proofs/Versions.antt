-- The version of the frames behind a frame.
use Rattle.std.proofs.Common.{◌≡◌, ◌≤◌, ℕ, Bool, true, false, refl, ap, ◌∙◌, inl, inr, ⊎_elim, arith, if◌then◌else◌}
use Rattle.std.proofs.lemmas.Bool.Decides.{leb_tells, nat_tests}
use Rattle.byteorder.specs.Endian.{little_number}
use Rattle.srv_edge.specs.Frames.{Frame, IsFrame, IsVersion, is_hello, spoken, version_behind}

-- a version of at least 1 is spoken as one of the two
is_spoken : (n : ℕ) → 1 ≤ n → IsVersion (spoken n)
is_spoken n some = ⊎_elim
    (λ le. inr (ap (λ b. if b then 2 else n) le.0))
    (λ gt. inl (ap (λ b. if b then 2 else n) gt.0 ∙ omega (arith, gt.1, some)))
    (leb_tells 2 n)

chosen : (hello : Bool) (n version : ℕ) → (hello ≡ true → 1 ≤ n) → IsVersion version → IsVersion (if hello then spoken n else version)
chosen true n version some is = is_spoken n (some refl)
chosen false n version some is = is

frames_version : (f : Frame) (version : ℕ) → IsFrame version f → IsVersion f.head.version
frames_version f version is = ⊎_elim (λ one. inl one.0) (λ two. inr two.0) is.is_head

pub is_version_behind : (version : ℕ) (f : Frame) → IsFrame version f → IsVersion (version_behind f)
is_version_behind version f is =
    chosen (is_hello f.message) (little_number 2 f.message.body) f.head.version (λ hello. grind (arith, nat_tests, hello)) (frames_version f version is)
