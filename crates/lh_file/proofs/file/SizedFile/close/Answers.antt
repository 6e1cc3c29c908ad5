use Rattle.std.proofs.Common.{◌≡◌, ◌≤◌, ◌%◌, true, length, map, sym, ap, ◌∙◌, subst}
use Rattle.std.proofs.lemmas.Bool.{false≢true}
use Rattle.std.proofs.lemmas.Map.Views.{exact_unsigned_eq}
use Rattle.lh_addr.specs.RootWord.{buckets_of}
use Rattle.lh_addr.specs.Settings.{Settings}
use Rattle.lh_settling.specs.ClosedFile.{ClosedFile}
use Rattle.lh_file.specs.Closing.{NoneIsLost, RuleHolds, HasHistory}
use Rattle.lh_file.specs.FileState.{FileState}
use Rattle.lh_file.specs.HashFile.{Shared}
use Rattle.lh_file.specs.Words.HandState.{HandState}
use Rattle.lh_words.specs.Plays.{Seated}
use Rattle.lh_file.proofs.OfHistory.Closing.{closes}
use Rattle.lh_file.proofs.OfWords.LastWords.{rule_of, none-lost-of}
use Rattle.lh_file.proofs.file.SizedFile.close.Goals as goal
use Rattle.lh_file.proofs.file.SizedFile.close.Goals.{then-clean, else-clean}

pub returns-clause-closed : goal.returns-clause-closed
returns-clause-closed g c = record {
  words = c.end-last.result;
  config =
      ap (λ (f : ClosedFile). f.config) c.ended-closed.ensures ∙ ap (λ (f : FileState). f.config) c.words.view_is
      ∙ ap (λ (s : Shared). s.state.config) c.self.view_is;
  root = ap (λ (f : ClosedFile). f.root) c.ended-closed.ensures;
  stamps = ap (λ (f : ClosedFile). f.stamps) c.ended-closed.ensures;
  rule = subst (λ (s : Shared). RuleHolds s.state.config c.end-last.result c.args.hand.view) c.self.view_is
      (rule_of g.M.Mode.traced c.self.inside.words c.end-last.result c.copied.new.seat.me.0 c.args.hand.view
      c.end-last.ensures.config c.end-last.ensures.end
      (ap (λ (m : Seated). m.0.view) c.copied.ensures.kept ∙ ap (λ (h : HandState). h.view) c.hand.view_is));
  each = λ all.
      let is : c.if-clean.gathered ≡ true = sym (ap (λ (f : ClosedFile). f.gathered) c.ended-closed.ensures) ∙ all in
      let whole : c.in_ok-lists.field-0.whole ≡ buckets_of c.end-last.result.root =
      elim c.if-clean.branch [
        | then-clean w ↦
            exact_unsigned_eq c.in_ok-lists.field-0.whole w.buckets_of.result (sym w.gathered-is ∙ is)
            ∙ w.buckets_of.ensures
        | else-clean w ↦ absurd (false≢true (sym w.if-clean.false ∙ sym w.gathered-is ∙ is))
      ] in
      let lists = ap (λ (f : ClosedFile). f.lists) c.ended-closed.ensures in
      let within : c.in_ok-lists.field-0.whole ≤ length (map (λ v. v.items) c.in_ok-lists.field-0.lists.items) =
      c.in_ok-lists.ensures.gathered.within in
      subst (λ ls. buckets_of c.end-last.result.root ≤ length ls) (sym lists)
      (subst (λ n. n ≤ length (map (λ v. v.items) c.in_ok-lists.field-0.lists.items)) whole within);
}

pub returns-clause-none_is_lost : goal.returns-clause-none_is_lost
returns-clause-none_is_lost g c =
    subst (NoneIsLost c.args.hand) (sym (ap (λ (f : ClosedFile). f.stamps) c.ended-closed.ensures))
    (subst (λ (h : HandState). NoneIsLost h c.end-last.result.stamps) c.hand.view_is
    (none-lost-of g.M.Mode.traced c.self.inside.words c.end-last.result c.hand.inside c.copied.new.seat.me.0
    c.hand.invariant (ap (λ (m : Seated). m.0.view) c.copied.ensures.kept) c.end-last.ensures.config
    c.end-last.ensures.end))

pub returns-clause-history : goal.returns-clause-history
returns-clause-history g c on all even =
    let is : c.if-clean.gathered ≡ true = sym (ap (λ (f : ClosedFile). f.gathered) c.ended-closed.ensures) ∙ all in
    let whole : (c.in_ok-lists.field-0.clean ≡ true)
    × (c.in_ok-lists.field-0.whole ≡ buckets_of c.end-last.result.root) =
    elim c.if-clean.branch [
      | then-clean w ↦ (
        w.if-clean.true,
        exact_unsigned_eq c.in_ok-lists.field-0.whole w.buckets_of.result (sym w.gathered-is ∙ is)
            ∙ w.buckets_of.ensures,
      )
      | else-clean w ↦ absurd (false≢true (sym w.if-clean.false ∙ sym w.gathered-is ∙ is))
    ] in
    let config : c.words.inside.config ≡ c.self.inside.words.config =
    ap (λ (f : FileState). f.config) c.words.view_is in
    let root : c.ended-closed.result.root ≡ c.end-last.result.root =
    ap (λ (f : ClosedFile). f.root) c.ended-closed.ensures in
    subst (λ (s : Shared). HasHistory s.state.listing c.ended-closed.result c.new.result c.args.hand) c.self.view_is
    (subst (λ ls. HasHistory c.self.inside.words.listing c.ended-closed.result ls c.args.hand) (sym c.new.ensures)
    (subst (λ (f : ClosedFile). HasHistory c.self.inside.words.listing f c.hand.inside.acts.items c.args.hand)
    (sym
    (c.ended-closed.ensures
    ∙ ap
    (λ (s : Settings).
    record {
      config = s;
      root = c.end-last.result.root;
      stamps = c.end-last.result.stamps;
      lists = map (λ v. v.items) c.in_ok-lists.field-0.lists.items;
      gathered = c.if-clean.gathered;
    })
    config))
    (closes c.address_is_only_bucket.ensures c.acts_have_an_order.ensures c.full_buckets_are_placed.ensures
    g.M.Mode.traced c.self.inside.words c.end-last.result c.hand.inside c.args.hand c.copied.new.seat.me.0
    (map (λ v. v.items) c.in_ok-lists.field-0.lists.items) c.in_ok-lists.field-0.whole c.in_ok-lists.field-0.clean
    c.if-clean.gathered
    c.hand.view_is c.hand.invariant (ap (λ (m : Seated). m.0) c.copied.ensures.kept)
    (subst (λ (s : Settings). 1 ≤ s.initial) c.self.invariant.config c.self.invariant.in_range.initial.0)
    c.end-last.ensures.config c.end-last.ensures.end c.in_ok-lists.ensures.gathered whole.0 whole.1 on
    (sym (ap (λ n. n % 2) root) ∙ even))))
