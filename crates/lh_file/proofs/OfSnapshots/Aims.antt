-- Each code is of one aim, whatever is split
use Rattle.std.proofs.Common.{◌≡◌, ℕ, suc, ◌+◌, ◌-◌, ◌*◌, ◌^◌, ◌<◌, ◌≤◌, List, [], ◌∷◌, ◌++◌, Bool, refl, ap, ◌∙◌}
use Rattle.std.proofs.Common.{subst, arith}
use Rattle.std.proofs.Math.Nat.{mod-lt}
use Rattle.lh_addr.specs.Growth.{hash_at, HashRises}
use Rattle.lh_addr.specs.declared.aim.Aim.{Aim}
use Rattle.lh_words.specs.History.Buckets.{bit}
use Rattle.lh_file.specs.FileState.{FileState}
use Rattle.lh_file.specs.Snapshots.Scans.{Scanning, leads, times_aimed, HasScanned}
use Rattle.lh_file.specs.Words.HandState.{HandState}
use Rattle.lh_file.specs.declared.snapshots.bucket_copy.BucketCopy.{BucketCopy}
use Rattle.lh_words.specs.Sums.{total, times, once_below}
use Rattle.lh_words.specs.History.BucketLaws.{split_at}
use Rattle.lh_words.specs.SumLaws.{total-cons, total-append, once-yes, once-more}

abbrev pub at_level : ℕ → ℕ → Aim
at_level level bucket = record { level = level; bucket = bucket }

-- one aim more: how often a code is aimed at, and the room that is left
pub aimed-snoc : (initial code : ℕ) (aims : List Aim) (aim : Aim) →
    times_aimed initial code (aims ++ aim ∷ []) ≡ times_aimed initial code aims + bit (leads initial code aim)
aimed-snoc initial code aims aim =
    omega (
      arith,
      total-append (λ (a : Aim). bit (leads initial code a)) aims (aim ∷ []),
      total-cons (λ (a : Aim). bit (leads initial code a)) aim [],
    )

-- a code of a bucket at a level is one of the bucket a level up, or of the one that the level's size is further
pub raised : HashRises → (initial code level bucket : ℕ) → 1 ≤ initial → bucket < initial * 2 ^ level
    → bit (leads initial code (at_level (level + 1) bucket))
    + bit (leads initial code (at_level (level + 1) (bucket + initial * 2 ^ level))) ≡
    bit (leads initial code (at_level level bucket))
raised rises initial code level bucket pos below =
    let p : ℕ = initial * 2 ^ level in let size : 0 < p = omega arith in
    split_at (hash_at initial (level + 1) code) (hash_at initial level code) bucket p (mod-lt code size) below
    (rises initial level code pos)

-- the first buckets, of which each code leads to one
pub next_first : (initial code n : ℕ) (aims : List Aim) →
    times_aimed initial code aims ≡ once_below (hash_at initial 0 code) n →
    times_aimed initial code (aims ++ at_level 0 n ∷ []) ≡ once_below (hash_at initial 0 code) (n + 1)
next_first initial code n aims h =
    let x : ℕ = hash_at initial 0 code in
    let same : times x (n ∷ []) ≡ 0 + bit (leads initial code (at_level 0 n)) = refl in
    omega (arith, aimed-snoc initial code aims (at_level 0 n), once-more x n, h, same)

-- a code is aimed at once, at the level of the beginning
pub all_first : (initial code n : ℕ) → 1 ≤ initial → initial ≤ n → once_below (hash_at initial 0 code) n ≡ 1
all_first initial code n pos past =
    let size : 0 < initial * 2 ^ 0 = omega arith in
    let h = mod-lt code size in
    once-yes (hash_at initial 0 code) n (omega arith)

-- how many buckets an aim may still come to
abbrev pub room_of : Aim → ℕ
room_of aim = 2 ^ (16 - aim.level)

-- one aim more adds the buckets that it may still come to
pub ahead-snoc : (aims : List Aim) (aim : Aim) → total room_of (aims ++ aim ∷ []) ≡ total room_of aims + room_of aim
ahead-snoc aims aim = omega (arith, total-append room_of aims (aim ∷ []), total-cons room_of aim [])

-- one level up there is room for half as many
pub halves : (level : ℕ) → level < 16 → 2 ^ (16 - level) ≡ 2 ^ (16 - (level + 1)) + 2 ^ (16 - (level + 1))
halves level below =
    let next : 16 - level ≡ suc (16 - (level + 1)) = omega (arith, below) in
    ap (λ n. 2 ^ n) next ∙ twice (16 - (level + 1))
  where
    twice : (n : ℕ) → 2 ^ suc n ≡ 2 ^ n + 2 ^ n
    twice n = omega (arith)

-- what a scan has met by its copies, and what it has still to meet, is what it had to meet
pub met_in_all : (traced : Bool) (file : FileState) (scan after : Scanning) (hand left : HandState)
    (copies : List BucketCopy) → HasScanned traced file scan hand copies after left
    → (code : ℕ) →
    times_aimed scan.initial code scan.aims ≡
    total (λ (copy : BucketCopy). bit (leads scan.initial code copy.aim)) copies
    + times_aimed scan.initial code after.aims
met_in_all traced file scan after hand left [] (same, _) code =
    omega (arith, ap (λ (s : Scanning). times_aimed scan.initial code s.aims) same)
met_in_all traced file scan after hand left (copy ∷ copies) (next, now, met, visited, rest) code =
    let n = met.0 in
    let later =
    subst
    (λ i.
    times_aimed i code next.aims ≡
    total (λ (x : BucketCopy). bit (leads i code x.aim)) copies + times_aimed i code after.aims) n
    (met_in_all traced file next after now left copies rest code) in
    omega (arith, met.1 code, later, total-cons (λ (x : BucketCopy). bit (leads scan.initial code x.aim)) copy copies)
