-- A snapshot holds what the history so far leaves
use Rattle.std.proofs.Common.{◌≡◌, ◌∙◌, List, length, ap, sym, subst}
use Rattle.lh_bucket.specs.Listing.{Lists}
use Rattle.lh_settling.specs.ClosedFile.{ClosedFile, IsWhole}
use Rattle.lh_settling.specs.Contents.{ArePlaced}
use Rattle.lh_settling.specs.Settled.{map_in}
use Rattle.lh_file.specs.Snapshots.Moments.{IsSnapshot}
use Rattle.lh_store.specs.Histories.{IsOneHistory}
use Rattle.lh_words.specs.History.Log.{left_after}
use Rattle.lh_words.specs.declared.seat_view.Entry.{Entry}

pub history_of : (opening : Lists) (snapshot : ClosedFile) (entries log : List Entry) (logs : List (List Entry))
    (listing : Lists) → IsWhole snapshot → snapshot.config ≡ opening.config →
    listing ≡ record { config = snapshot.config; lists = snapshot.lists } →
    IsSnapshot opening snapshot entries logs log → IsOneHistory opening snapshot.stamps listing
history_of opening snapshot entries log logs listing whole config is h = record {
  log = log;
  legal = h.0.1;
  count = h.0.0;
  config_is = ap (λ l. l.config) is ∙ config;
  holds =
      subst
      (λ (l : Lists). ArePlaced l.config.initial (length l.lists) (left_after (map_in opening) log) l.lists) (sym is)
      (subst (λ n. ArePlaced snapshot.config.initial n (left_after (map_in opening) log) snapshot.lists)
      (sym whole.each) h.1);
}
