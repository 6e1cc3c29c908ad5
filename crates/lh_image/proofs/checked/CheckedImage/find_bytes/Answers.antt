use Rattle.std.proofs.Common.{◌≡◌, ℕ, List, Bor, Option, Some, None, Ok, refl, sym, subst}
use Rattle.std.specs.FinMap.{get}
use Rattle.std.specs.Option.{MatchOption}
use Rattle.lh_bucket.specs.Listing.{Lists, all_of}
use Rattle.lh_bucket.specs.Records.{map_of}
use Rattle.lh_image.specs.Checked.{IsChecked}
use Rattle.lh_image.specs.Image.{listing_of}
use Rattle.lh_image.specs.Indexed.{AnswersLookUp}
use Rattle.lh_image.specs.Layout.{view_of}
use Rattle.lh_image.specs.LookUp.{look_up}
use Rattle.lh_image.proofs.checked.CheckedImage.find_bytes.Goals as goal

-- what is found is what is due
found_due : (bytes key : List ℕ) (due : Option (List ℕ)) (found : Option (Bor (List ℕ))) →
    look_up (view_of bytes) key ≡ Ok due → AnswersLookUp bytes key (Ok found) →
    MatchOption found (due ≡ None) (λ value. due ≡ Some value.now)
found_due bytes key due None e g = cc
found_due bytes key due (Some value) e g = cc

pub returns-clause-listed : goal.returns-clause-listed
returns-clause-listed c =
    let i = c.self.inside in
    let bytes = i.bytes.now in
    let key = c.args.key.now in
    let checked =
    subst (λ index. IsChecked bytes i.header i.root index) (sym c.deref.ensures.value) c.self.invariant in
    let answered =
    subst (λ k. AnswersLookUp bytes k (Ok c.in-Ok.found)) c.bytes.ensures.value
    (c.in-Ok.ensures.found i.header refl checked) in
    subst
    (λ (l : Lists).
    MatchOption c.in-Ok.found (get (map_of (all_of l.lists)) key ≡ None)
    (λ value. get (map_of (all_of l.lists)) key ≡ Some value.now)) c.self.view_is
    (found_due bytes key (get (map_of (all_of (listing_of (view_of bytes)).lists)) key) c.in-Ok.found
    (c.what_is_found_stands_there.ensures.map bytes (listing_of (view_of bytes)) key c.self.invariant.image) answered)

pub unreachable-requires : goal.unreachable-requires
unreachable-requires c =
    let i = c.self.inside in
    c.in-Err.ensures.found i.header refl
    (subst (λ index. IsChecked i.bytes.now i.header i.root index) (sym c.deref.ensures.value) c.self.invariant)
