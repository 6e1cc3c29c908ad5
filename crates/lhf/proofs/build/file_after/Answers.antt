use Rattle.std.proofs.Common.{◌≡◌, ℕ, ◌<◌, List, ap, subst, sym, ◌∙◌}
use Rattle.std.specs.Prelude.{◌==◌}
use Rattle.std.specs.FinMap.{retain_keys}
use Rattle.std.proofs.lemmas.List.{length-map}
use Rattle.std.proofs.Math.ListN.{get_or-map}
use Rattle.lh_addr.specs.Fnv.{code_of}
use Rattle.lh_addr.specs.Growth.{address}
use Rattle.lh_addr.specs.Settings.{Settings}
use Rattle.lh_bucket.specs.declared.call.Call.{Call}
use Rattle.lh_bucket.specs.declared.call.Reply.{Reply}
use Rattle.lh_bucket.specs.Bucket.{Seen}
use Rattle.lh_bucket.specs.Listing.{IsListing, Lists, list_at, size}
use Rattle.lh_bucket.specs.PlainMap.{Records, outcome}
use Rattle.lh_bucket.specs.Records.{map_of}
use Rattle.lh_core.specs.Listed.{IsListed}
use Rattle.lh_core.specs.Opened.{lists_in}
use Rattle.lh_core.specs.Serial.{IsSerialFrom, size_from}
use Rattle.lh_core.specs.World.{WorldSeen, no_bucket}
use Rattle.lhf.proofs.build.file_after.Goals as goal

-- the listing of a world after calls is one of the file that they leave
listed_after : (settings : Settings) (map : Records) (start : ℕ) (calls : List Call) (told : List Reply)
    (world : WorldSeen) (l : Lists) → IsSerialFrom settings map start calls told world →
    l ≡ record { config = world.config; lists = lists_in world.buckets } → IsListing l →
    IsListed settings (outcome map calls) (size_from settings map start calls) l
listed_after settings map start calls told world l serial is kept =
    let pairs : Seen → List _ = λ b. b.pairs in
    let buckets : size l ≡ size_from settings map start calls =
    ap (λ (x : Lists). size x) is ∙ length-map world.buckets pairs ∙ serial.placed.all in
    record {
      config = ap (λ (x : Lists). x.config) is ∙ serial.same;
      buckets = buckets;
      placed = λ i lt.
          ap (λ (x : Lists). map_of (list_at x.lists i)) is
          ∙ ap map_of (get_or-map pairs world.buckets i no_bucket)
          ∙ serial.placed.each i (subst (λ (n : ℕ). i < n) buckets lt)
          ∙ ap (λ (n : ℕ). retain_keys (outcome map calls) (λ key. address settings.initial n (code_of key) == i))
          (sym buckets);
      listing = kept;
    }

pub returns : goal.returns
returns c =
    listed_after _ _ _ _ _ _ _ c.in_ok-ran.ensures.served c.in_ok-left.ensures.lists c.buckets.ensures.kept
