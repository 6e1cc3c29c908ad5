use Rattle.std.proofs.Common.{◌≡◌, ◌∙◌, List, sym, map}
use Rattle.lh_page.specs.declared.pair.Pair.{Pair}
use Rattle.lh_page.specs.Records.{IsRecord}
use Rattle.lh_bucket.specs.Listing.{IsHome, list_at}
use Rattle.lh_bucket.proofs.Listings.{list_read, each_more, all_more, none_twice, none_twice_more, first_twice}
use Rattle.lh_bucket.proofs.listing_faults.first_fault.Goals as goal

pub loop-bucket-preserved-then-is_sound : goal.loop-bucket-preserved-then-is_sound
loop-bucket-preserved-then-is_sound c =
    let lists : List (List Pair) = map (λ v. v.items) c.args.lists.now in
    let read : list_at lists c.loop-bucket.bucket ≡ c.deref.result.now =
    list_read (λ v. v.items) c.args.lists.now c.loop-bucket.bucket c.index-lists-bucket.result c.loop-bucket-test.true
    c.index-lists-bucket.is ∙ sym c.deref.ensures.value in
    record {
      home =
          each_more (IsHome c.args.root.now.initial c.args.root.now.buckets) lists c.loop-bucket.bucket
          c.deref.result.now read c.if-is_sound.ensures.home c.loop-bucket.invariant.home;
      records =
          all_more IsRecord lists c.loop-bucket.bucket c.deref.result.now read c.if-is_sound.ensures.records
          c.loop-bucket.invariant.records;
      new =
          none_twice_more lists c.loop-bucket.bucket c.deref.result.now c.loop-bucket.twice read
          c.if-is_sound.ensures.new c.loop-bucket.invariant.new;
      twice = c.loop-bucket.invariant.twice;
    }

pub loop-bucket-preserved : goal.loop-bucket-preserved
loop-bucket-preserved c =
    let lists : List (List Pair) = map (λ v. v.items) c.args.lists.now in
    let read : list_at lists c.loop-bucket.bucket ≡ c.deref-in-loop-bucket.result.now =
    list_read (λ v. v.items) c.args.lists.now c.loop-bucket.bucket c.index-lists-bucket.result c.loop-bucket-test.true
    c.index-lists-bucket.is ∙ sym c.deref-in-loop-bucket.ensures.value in
    let again : list_at lists c.loop-bucket.bucket ≡ c.deref-in-loop-bucket-2.result.now =
    list_read (λ v. v.items) c.args.lists.now c.loop-bucket.bucket c.index-lists-bucket.result c.loop-bucket-test.true
    c.index-lists-bucket.is ∙ sym c.deref-in-loop-bucket-2.ensures.value in
    record {
      home =
          each_more (IsHome c.args.root.now.initial c.args.root.now.buckets) lists c.loop-bucket.bucket
          c.deref-in-loop-bucket.result.now read c.in_default.ensures.none c.loop-bucket.invariant.home;
      records =
          all_more IsRecord lists c.loop-bucket.bucket c.deref-in-loop-bucket.result.now read
          c.in_default.ensures.records c.loop-bucket.invariant.records;
      new =
          none_twice lists c.loop-bucket.bucket c.deref-in-loop-bucket-2.result.now c.loop-bucket.twice
          c.twice_by-twice.result again c.twice_by-twice.ensures.none c.twice_by-twice.ensures.new
          c.loop-bucket.invariant.new;
      twice =
          first_twice lists c.loop-bucket.bucket c.deref-in-loop-bucket-2.result.now c.loop-bucket.twice
          c.twice_by-twice.result again c.twice_by-twice.ensures.twice c.loop-bucket.invariant.new
          c.loop-bucket.invariant.twice;
    }
