-- The faults of pages by themselves, as they are noted page after page
use Rattle.std.specs.Prelude.{◌≡◌, ℕ, ◌+◌, Bool, not, ◌&&◌, List, [], ◌∷◌, option_map, Option, Some, None, nat_lt, ◌==◌}
use Rattle.std.specs.Prelude.{if◌then◌else◌}
use Rattle.std.specs.List.{range_with_len, sum_by, find}
use Rattle.lh_page.specs.declared.head.PageHead.{PageHead}
use Rattle.lh_image.specs.declared.fault.ImageFault.{ImageFault}
use Rattle.lh_image.specs.declared.fault.ImageFault.TheVariants.{Kind, BucketNumber, Level, Used}
use Rattle.lh_image.specs.declared.header.Header.{Header}
use Rattle.lh_image.specs.declared.judge.page_checks.PageFaults.{PageFaults}
use Rattle.lh_image.specs.Faults.{at_head, bad_kind, bad_bucket, bad_level, bad_used, has_bad_slot, where_so}
use Rattle.lh_image.specs.Table.{has_plain_head}
use Rattle.lh_image.specs.View.{View, used}

-- a page is noted, unless one was before
abbrev pub noted : Option ℕ → ℕ → Bool → Option ℕ
noted (Some least) p at_fault = Some least
noted None p at_fault = if at_fault then Some p else None

-- a level is compared where the file has the bucket
abbrev pub known_bad_level : Header → ℕ → PageHead → Bool
known_bad_level h p head = nat_lt head.bucket h.buckets && bad_level h p head

-- slots are looked at behind a plain head
abbrev pub known_bad_slot : View → ℕ → Bool
known_bad_slot v p = has_plain_head v p && has_bad_slot v p

-- what was noted of the first m pages behind the header
pub record AreNoted (v : View) (m : ℕ) (faults : PageFaults) : Type 0 where
  pub sum : faults.sum ≡ sum_by (used v) (range_with_len 1 m)
  pub kind : faults.kind ≡ find (at_head bad_kind v) (range_with_len 1 m)
  pub bucket : faults.bucket ≡ find (at_head bad_bucket v) (range_with_len 1 m)
  pub level : faults.level ≡ find (at_head known_bad_level v) (range_with_len 1 m)
  pub used : faults.used ≡ find (at_head bad_used v) (range_with_len 1 m)
  pub slot : faults.slot ≡ find (known_bad_slot v) (range_with_len 1 m)

-- what is noted after one page more
abbrev pub seen : PageFaults → Header → ℕ → PageHead → Bool → PageFaults
seen old header p head has_bad_slot = record {
  kind = noted old.kind p (bad_kind header p head);
  bucket = noted old.bucket p (bad_bucket header p head);
  level = noted old.level p (known_bad_level header p head);
  used = noted old.used p (bad_used header p head);
  slot = noted old.slot p has_bad_slot;
  sum = old.sum + head.used;
}

-- the rows of what was noted of heads
abbrev pub noted_rows : PageFaults → ℕ → List (Option ImageFault)
noted_rows faults records =
    option_map Kind faults.kind
    ∷ option_map BucketNumber faults.bucket
    ∷ option_map Level faults.level
    ∷ where_so (not (faults.sum == records)) (Used 0)
    ∷ option_map Used faults.used
    ∷ []
