-- What a split promises
use Rattle.std.proofs.Common.{◌≡◌, ◌+◌, ◌*◌, ◌^◌, not, sym, ap, ◌∙◌}
use Rattle.std.specs.FinMap.{retain_keys}
use Rattle.std.specs.Option.{unwrap_or}
use Rattle.lh_bucket.specs.Bucket.{Seen, CanSplit, content, raised, stays}
use Rattle.lh_words.specs.History.Buckets.{HasDivided}

-- what splitting one bucket into another promises, where it may be split
pub divided_of : (old new low high : Seen) → CanSplit old.head new.head → low.head ≡ raised old.head old.head →
    high.head ≡ raised old.head new.head
    → content low ≡ retain_keys (content old) (stays old.head) →
    content high ≡ retain_keys (content old) (λ key. not (stays old.head key)) → HasDivided old low high
divided_of old new low high can low_head high_head low_content high_content =
    let level : unwrap_or old.head.level 0 ≡ can.level = ap (λ l. unwrap_or l 0) can.filled in record {
      low_head = low_head;
      number =
          ap (λ hd. hd.number) high_head ∙ can.number
          ∙ ap (λ l. old.head.number + old.head.initial * 2 ^ l) (sym level);
      initial = ap (λ hd. hd.initial) high_head ∙ can.initial;
      level = ap (λ hd. hd.level) high_head;
      low_content = low_content;
      high_content = high_content;
    }
