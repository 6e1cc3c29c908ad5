-- The world of a listing
use Rattle.std.proofs.Common.{◌≡◌, List, [], ◌∷◌, length, map, refl, sym, ap, subst, ◌∙◌, arith}
use Rattle.std.proofs.lemmas.List.{length-map}
use Rattle.std.proofs.Math.ListN.{get_or-map}
use Rattle.std.proofs.Math.Seq.{ext_get_or}
use Rattle.lh_addr.specs.Extent.{Extent}
use Rattle.lh_addr.specs.Settings.{Settings}
use Rattle.lh_bucket.specs.Bucket.{Seen}
use Rattle.lh_bucket.specs.Laws.{PlacedLaw}
use Rattle.lh_bucket.specs.Listing.{Lists, IsListing, size}
use Rattle.lh_bucket.specs.Records.{map_of}
use Rattle.lh_core.specs.declared.state.SplitState.TheVariants as split
use Rattle.lh_core.specs.State.{all_idle, resting}
use Rattle.lh_core.specs.Opened.{IsListedRow, IsOpenedWorld, lists_in, records_of}
use Rattle.lh_core.specs.World.{IsPlaced, no_bucket}

map_same : (xs : List Seen) → map (λ (b : Seen). b) xs ≡ xs
map_same [] = refl
map_same (x ∷ xs) = ap (λ ys. x ∷ ys) (map_same xs)

module _ (l : Lists) (kept : IsListing l) where
  module _ (row : List Seen) (h : IsListedRow l (size l) row) where
    -- each bucket has the records of its list
    pub listed_lists : lists_in row ≡ l.lists
    listed_lists =
        let same : length (lists_in row) ≡ size l = length-map row (λ (b : Seen). b.pairs) ∙ h.all in
        ext_get_or [] (lists_in row) l.lists same
        (λ i lt.
        get_or-map (λ (b : Seen). b.pairs) row i no_bucket
        ∙ ap (λ (b : Seen). b.pairs) (h.each i (omega (arith, same, lt))))

    -- each record of the listing's plain map stands in the bucket of its address and nowhere else
    pub listed_placed : PlacedLaw → IsPlaced l.config.initial (size l) (records_of l) row
    listed_placed placed = record {
      all = h.all;
      each = λ i lt. ap (λ (b : Seen). map_of b.pairs) (h.each i lt) ∙ placed l i kept lt;
    }

    -- such a world, of which the buckets are seen as they are
    pub opened_is : PlacedLaw → (config : Settings) (root : Extent) → config ≡ l.config →
        root ≡ record { initial = l.config.initial; buckets = size l }
        → IsOpenedWorld l
        (record {
          config = config;
          state =
              record { buckets = root.buckets; filled = root.buckets; workers = all_idle; splitter = split.Idle };
          buckets = map (λ (b : Seen). b) row;
        })
    opened_is placed config root same is =
        let seen : row ≡ map (λ (b : Seen). b) row = sym (map_same row) in
        let many : root.buckets ≡ size l = ap (λ (x : Extent). x.buckets) is in
        record {
          config = same;
          state = ap resting many;
          stands = subst (λ (bs : List Seen). IsPlaced config.initial root.buckets (records_of l) bs) seen
              (subst (λ n. IsPlaced config.initial n (records_of l) row) (sym many)
              (subst (λ (s : Settings). IsPlaced s.initial (size l) (records_of l) row) (sym same)
              (listed_placed placed)));
          lists = ap lists_in (sym seen) ∙ listed_lists;
        }
