use Rattle.std.proofs.Common.{rules, refl, ◌<◌, ◌+◌, ◌-◌, ◌++◌, [], ◌∷◌, All, ap, ◌∙◌, sym, subst}
use Rattle.lh_bucket.specs.Bucket.{content}
use Rattle.lh_bucket.specs.PagedBucket.{found_at}
use Rattle.lh_bucket.specs.declared.call.Call.TheVariants.{Search}
use Rattle.lh_file.specs.FileState.{FileState}
use Rattle.lh_file.specs.Words.HandState.{HandState}
use Rattle.lh_words.specs.Plays.{Seated}
use Rattle.lh_words.specs.Counting.{inserts_of, deletes_of}
use Rattle.lh_file.proofs.OfCalls.Serving.{uncounted, stamped_same}
use Rattle.lh_file.proofs.OfWords.Fields.{is_of, some_left}
use Rattle.lh_file.proofs.words.Words.enter_look.Goals as goal

pub enter-stamp-requires : goal.enter-stamp-requires
enter-stamp-requires g c = record {
  at = (is_of c.self.inside c.hand.inside _ _ c.self.view_is c.hand.view_is c.requires.of).table;
  there = c.requires.there ∙ sym (ap (λ (f : FileState). f.table) c.self.view_is);
  free = c.hand.invariant.free;
  bucketless = c.hand.invariant.bucketless;
  live = c.hand.invariant.live;
  left = some_left c.hand.inside _ c.hand.view_is c.requires.left;
  serves = (c.args.bucket.now, c.requires.rests, c.requires.owned, record { head = refl; replied = refl; left = refl });
}

pub returns-then-self-clause-acted : goal.returns-then-self-clause-acted
returns-then-self-clause-acted g c =
    let stamp = c.enter-stamp.result.0 in
    let given = found_at c.args.bucket.now.pairs c.in_bucket-place.result in
    let is = c.in_bucket-place.ensures.found in
    let none = uncounted (content c.args.bucket.now) (Search c.args.key.now) refl in (
      stamp,
      record {
        newest =
            subst (All (λ x. x < stamp)) (ap (λ (h : HandState). h.view.stamps) c.hand.view_is)
            c.enter-stamp.ensures.newest;
        view = ap (λ (m : Seated). m.0.view) c.enter-stamp.ensures.acted
            ∙ stamped_same c.hand.inside.seat.me.0.view stamp (inserts_of given) (deletes_of given)
            (ap inserts_of is ∙ none.0) (ap deletes_of is ∙ none.1)
            ∙ ap
            (λ (h : HandState).
            record (h.view) {
              stamps = h.view.stamps ++ stamp ∷ [];
              left = h.view.left - 1;
              inserted = h.view.inserted + inserts_of given;
              deleted = h.view.deleted + deletes_of given;
            })
            c.hand.view_is;
        logs =
            ap (λ (m : Seated). m.0.logs) c.enter-stamp.ensures.acted
            ∙ ap (λ (h : HandState). h.logs) c.hand.view_is;
        acts = search rules;
        room = search rules;
        table = search rules;
        recording = search rules;
      },
    )

pub returns-else-self-clause-acted : goal.returns-else-self-clause-acted
returns-else-self-clause-acted g c =
    let stamp = c.enter-stamp.result.0 in
    let given = found_at c.args.bucket.now.pairs c.in_bucket-place.result in
    let is = c.in_bucket-place.ensures.found in
    let none = uncounted (content c.args.bucket.now) (Search c.args.key.now) refl in (
      stamp,
      record {
        newest =
            subst (All (λ x. x < stamp)) (ap (λ (h : HandState). h.view.stamps) c.hand.view_is)
            c.enter-stamp.ensures.newest;
        view = ap (λ (m : Seated). m.0.view) c.enter-stamp.ensures.acted
            ∙ stamped_same c.hand.inside.seat.me.0.view stamp (inserts_of given) (deletes_of given)
            (ap inserts_of is ∙ none.0) (ap deletes_of is ∙ none.1)
            ∙ ap
            (λ (h : HandState).
            record (h.view) {
              stamps = h.view.stamps ++ stamp ∷ [];
              left = h.view.left - 1;
              inserted = h.view.inserted + inserts_of given;
              deleted = h.view.deleted + deletes_of given;
            })
            c.hand.view_is;
        logs =
            ap (λ (m : Seated). m.0.logs) c.enter-stamp.ensures.acted
            ∙ ap (λ (h : HandState). h.logs) c.hand.view_is;
        acts = search rules;
        room = search rules;
        table = search rules;
        recording = search rules;
      },
    )

pub returns-then-self-clause-met : goal.returns-then-self-clause-met
returns-then-self-clause-met g c = (
  c.enter-stamp.result.0,
  search rules,
  search rules,
  ap (λ (m : Seated). m.0.view.stamps) c.enter-stamp.ensures.acted
      ∙ ap (λ (h : HandState). h.view.stamps ++ c.enter-stamp.result.0 ∷ []) c.hand.view_is,
)

pub returns-else-self-clause-met : goal.returns-else-self-clause-met
returns-else-self-clause-met g c = (
  c.enter-stamp.result.0,
  search rules,
  search rules,
  ap (λ (m : Seated). m.0.view.stamps) c.enter-stamp.ensures.acted
      ∙ ap (λ (h : HandState). h.view.stamps ++ c.enter-stamp.result.0 ∷ []) c.hand.view_is,
)
