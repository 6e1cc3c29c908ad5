use Rattle.std.proofs.Common.{◌≡◌, ℕ, ◌+◌, ◌-◌, ◌*◌, ◌^◌, ◌<◌, ◌≤◌, vec_len, vec_capacity}
use Rattle.lh_words.specs.History.Buckets.{bit}
use Rattle.lh_file.specs.Snapshots.Scans.{leads, times_aimed, IsWithin}
use Rattle.lh_words.specs.Rule.{Each}
use Rattle.lh_words.specs.Sums.{total}
use Rattle.lh_addr.specs.declared.aim.Aim.{Aim}
use Rattle.lh_file.proofs.snapshots.scan.push_raised.Given as goal

abbrev pub invariant-loop-level : goal.invariant-loop-level
invariant-loop-level l = record {
  room : vec_len l.aims + (l.to - l.level) ≤ vec_capacity l.aims;
  upto : l.level ≤ l.to;
  reached : l.bucket < l.first * 2 ^ l.level;
  all : (code : ℕ) →
      times_aimed l.first code l.aims.items + bit (leads l.first code (record { level = l.level; bucket = l.bucket }))
      ≡ times_aimed l.first code l.fn.aims.items
      + bit (leads l.first code (record { level = l.from; bucket = l.bucket }));
  ahead : total (λ (a : Aim). 2 ^ (16 - a.level)) l.aims.items + 2 ^ (16 - l.level)
      ≡ total (λ (a : Aim). 2 ^ (16 - a.level)) l.fn.aims.items + 2 ^ (16 - l.from);
  within : Each l.aims.items (IsWithin l.first);
}
