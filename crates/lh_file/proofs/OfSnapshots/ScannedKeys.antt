-- A scan that went on to its end meets each key once
use Rattle.std.proofs.Common.{◌≡◌, ℕ, zero, suc, ◌+◌, ◌≤◌, Bool, true, false, cond, List, [], ◌∷◌, None, refl}
use Rattle.std.proofs.Common.{sym, ap, ◌∙◌, subst, arith, eq-eqb}
use Rattle.std.specs.FinMap.{get}
use mathlib.Core.Logic.{dite}
use native.Mathlib.Decide.{ℕ_discrete}
use mathlib.Core.Option.{some, some-injective, some-ne-none}
use lib.ListN.{get_elem?}
use Rattle.lh_addr.specs.Fnv.{code_of}
use Rattle.lh_addr.specs.Growth.{hash_at}
use Rattle.lh_bucket.specs.Bucket.{Seen}
use Rattle.lh_bucket.specs.PlainMap.{Records}
use Rattle.lh_bucket.specs.PlainMapLaws.{get_kept}
use Rattle.lh_settling.specs.Settled.{map_in}
use Rattle.lh_words.specs.History.Buckets.{bit, belongs}
use Rattle.lh_words.specs.History.Log.{left_after}
use Rattle.lh_words.specs.SumLaws.{total-cons, terms_le}
use Rattle.lh_words.specs.Sums.{total}
use Rattle.lh_file.specs.FileState.{FileState}
use Rattle.lh_file.specs.Snapshots.ScannedKeys.{HasGoneOn, IsLeftIn, KeyScanLaw, OneHandLaw, TwiceLaw}
use Rattle.lh_file.specs.Snapshots.ScannedKeys.{WasVisited, is_copied}
use Rattle.lh_file.specs.Snapshots.Scans.{Scanning, bucket_of, leads, times_aimed}
use Rattle.lh_file.specs.declared.snapshots.bucket_copy.BucketCopy.{BucketCopy}

-- what a scan has met by its copies, and what it has still to meet, is what it had to meet
met_by_all : (traced : Bool) (file : FileState) (scan after : Scanning) (copies : List BucketCopy) →
    HasGoneOn traced file scan copies after → (code : ℕ) →
    times_aimed scan.initial code scan.aims ≡
    total (λ (copy : BucketCopy). bit (leads scan.initial code copy.aim)) copies
    + times_aimed scan.initial code after.aims
met_by_all traced file scan after [] same code =
    omega (arith, ap (λ (s : Scanning). times_aimed scan.initial code s.aims) same)
met_by_all traced file scan after (copy ∷ copies) (next, met, visited, rest) code =
    let later =
    subst
    (λ i.
    times_aimed i code next.aims ≡
    total (λ (x : BucketCopy). bit (leads i code x.aim)) copies + times_aimed i code after.aims) met.0
    (met_by_all traced file next after copies rest code) in
    omega (arith, met.1 code, later, total-cons (λ (x : BucketCopy). bit (leads scan.initial code x.aim)) copy copies)

-- each copy was taken by some hand
visited_at : (traced : Bool) (file : FileState) (scan after : Scanning) (copies : List BucketCopy) →
    HasGoneOn traced file scan copies after → (place : ℕ) (copy : BucketCopy) → get_elem? copies place ≡ some copy →
    WasVisited traced file copy
visited_at traced file scan after [] h place copy e = absurd (some-ne-none copy (sym e))
visited_at traced file scan after (first ∷ copies) (next, met, visited, rest) zero copy e =
    subst (WasVisited traced file) (some-injective first copy e) visited
visited_at traced file scan after (first ∷ copies) (next, met, visited, rest) (suc place) copy e =
    visited_at traced file next after copies rest place copy e

-- where some of a list pass a test, one of them stands at a place
some_place : (f : BucketCopy → Bool) (xs : List BucketCopy) → 1 ≤ total (λ x. bit (f x)) xs →
    (place : ℕ) × (copy : BucketCopy) × (get_elem? xs place ≡ some copy) × (f copy ≡ true)
some_place f [] h = absurd (omega arith)
some_place f (x ∷ xs) h = here (f x) refl (λ none. some_place f xs none)
  where
    here : (b : Bool) → f x ≡ b →
        (1 ≤ total (λ y. bit (f y)) xs →
        (place : ℕ) × (copy : BucketCopy) × (get_elem? xs place ≡ some copy) × (f copy ≡ true)) →
        (place : ℕ) × (copy : BucketCopy) × (get_elem? (x ∷ xs) place ≡ some copy) × (f copy ≡ true)
    here true e later = (0, x, refl, e)
    here false e later =
        let t = later (omega (arith, h, total-cons (λ y. bit (f y)) x xs, ap bit e)) in
        (suc t.0, t.1, t.2, t.3)

-- a copy leads to itself the code of each key that it has
copied_leads : (traced : Bool) (file : FileState) (key : List ℕ) (copy : BucketCopy) → WasVisited traced file copy →
    is_copied key copy ≡ true → leads file.config.initial (code_of key) copy.aim ≡ true
copied_leads traced file key copy (old, new, visited) is =
    eq-eqb (hash_at file.config.initial copy.aim.level (code_of key)) copy.aim.bucket
    (visited.kept.home.1 key is)

-- a copy of a traced file to which the code of a key leads has of that key what the log leaves
copied_as_left : (file : FileState) (key : List ℕ) (copy : BucketCopy) → WasVisited true file copy →
    leads file.config.initial (code_of key) copy.aim ≡ true → IsLeftIn file key copy
copied_as_left file key copy (old, new, visited) is =
    let bucket : Seen = bucket_of file.config copy in
    let left : Records = left_after (map_in file.listing) visited.log in
    let surveyed = visited.leaves refl in (
      old,
      visited.log,
      surveyed.0,
      ap (λ m. get m key) (surveyed.1 0 bucket refl) ∙ get_kept left (belongs bucket) key
          ∙ ap (λ b. cond b (get left key) None) is,
    )

pub met_once : KeyScanLaw
met_once traced file scan after copies initial all gone end key =
    let f : BucketCopy → Bool = λ copy. leads file.config.initial (code_of key) copy.aim in
    let one : total (λ copy. bit (f copy)) copies ≡ 1 =
    subst (λ i. total (λ (copy : BucketCopy). bit (leads i (code_of key) copy.aim)) copies ≡ 1) initial
    (omega (
      arith,
      met_by_all traced file scan after copies gone (code_of key),
      all (code_of key),
      ap (times_aimed scan.initial (code_of key)) end,
    )) in
    let t = some_place f copies (omega (arith, one)) in
    let visited : WasVisited traced file t.1 = visited_at traced file scan after copies gone t.0 t.1 t.2 in
    record {
      place = t.0;
      copy = t.1;
      there = t.2;
      alone = λ p other at is.
          dite (ℕ_discrete p t.0) (λ e. e)
          (λ ne.
          absurd
          (omega (
            arith,
            one,
            terms_le (λ copy. bit (f copy)) copies t.0 p t.1 other ne t.2 at,
            ap bit t.3,
            ap bit
                (copied_leads traced file key other (visited_at traced file scan after copies gone p other at) is),
          )));
      distinct = visited.2.kept.distinct;
      leaves = λ yes. copied_as_left file key t.1 (subst (λ b. WasVisited b file t.1) yes visited) t.3;
    }

pub by_one_hand : OneHandLaw
by_one_hand traced file scan after hand left [] h = h.0
by_one_hand traced file scan after hand left (copy ∷ copies) (next, now, met, visited, rest) =
    (next, met, (hand, now, visited), by_one_hand traced file next after now left copies rest)

pub twice : TwiceLaw
twice traced file scan next after [] more first rest =
    subst (λ s. HasGoneOn traced file s more after) first rest
twice traced file scan next after (copy ∷ copies) more (then, met, visited, first) rest =
    (then, met, visited, twice traced file then next after copies more first rest)
