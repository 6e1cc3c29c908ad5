-- Records that a bucket is filled with, none of which is looked for.
use Rattle.std.proofs.Common.{◌≡◌, ℕ, ◌<◌, ◌≤◌, List, length, Option, Some, None, is_some, sym, ap, ◌∙◌}
use Rattle.std.specs.Bool.{IsTrue}
use Rattle.std.specs.FinMap.{contains_key}
use Rattle.std.proofs.lemmas.Bool.{false≢true}
use Rattle.lh_addr.specs.Fnv.{code_of}
use Rattle.lh_addr.specs.Growth.{hash_at}
use Rattle.lh_addr.specs.Limits.{IsInitial, IsCapacity}
use Rattle.lh_page.specs.declared.pair.Pair.{Pair}
use Rattle.lh_page.specs.Records.{key_at, place_of}
use Rattle.lh_bucket.specs.Records.{map_of}
use Rattle.lh_bucket.specs.Bucket.{IsKept}
use Rattle.lh_bucket.proofs.MapOf.{Distinct, StandsAt, stands}

by_place : (initial level number : ℕ) (ps : List Pair) (key : List ℕ) (o : Option ℕ) →
    ((p : ℕ) → p < length ps → hash_at initial level (code_of (key_at ps p)) ≡ number) → StandsAt ps key o →
    IsTrue (contains_key (map_of ps) key) → hash_at initial level (code_of key) ≡ number
by_place initial level number ps key None each at there = absurd (false≢true (sym (ap is_some at) ∙ there))
by_place initial level number ps key (Some p) each at there =
    ap (λ k. hash_at initial level (code_of k)) (sym at.1) ∙ each p at.0

-- a bucket with records each of which belongs there
pub kept_filled : (number initial capacity level : ℕ) (ps : List Pair) → IsInitial initial → IsCapacity capacity →
    level ≤ 16 → Distinct ps → ((p : ℕ) → p < length ps → hash_at initial level (code_of (key_at ps p)) ≡ number) →
    IsKept
    (record {
      head = record { number = number; initial = initial; capacity = capacity; level = Some level };
      pairs = ps;
    })
kept_filled number initial capacity level ps in_initial in_capacity low d each = record {
  initial = in_initial;
  capacity = in_capacity;
  distinct = d;
  home = (low, λ key there. by_place initial level number ps key (place_of ps key) each (stands ps key) there);
}
