-- Something can always be said of a closed file: it is settled, or a fault is due
use Rattle.std.proofs.Common.{◌≡◌, ◌≢◌, ℕ, zero, suc, ◌%◌, ◌<◌, ◌≤◌, ◌⊎◌, inl, inr, ⊎_elim, List, [], ◌∷◌, length, Some}
use Rattle.std.proofs.Common.{refl, sym, ◌∙◌, arith}
use Rattle.std.specs.List.{slice_get, range_with_len}
use Rattle.std.proofs.lemmas.Bool.{cases_lt}
use Rattle.std.proofs.lemmas.List.{length-map}
use Rattle.lh_addr.specs.Growth.{AddressLaw}
use Rattle.lh_bucket.specs.declared.call.Reply.{Reply as ReplyOf}
use Rattle.lh_bucket.specs.Listing.{Lists, IsHome, EachPlace}
use Rattle.lh_bucket.specs.PlainMap.{replies}
use Rattle.lh_settling.specs.declared.act.ActLine.{ActLine}
use Rattle.lh_settling.specs.declared.settle_fault.SettleFault.{SettleFault}
use Rattle.lh_settling.specs.declared.settle_fault.SettleFault.TheVariants.{SplitUnderWay, MissingStamp, Reply, Content}
use Rattle.lh_settling.specs.declared.settle_fault.SettleFault.TheVariants.{Placed, Memory}
use Rattle.lh_settling.specs.Acts.{stamps_of, calls_of, replies_of, FirstDiffer}
use Rattle.lh_addr.specs.RootWord.{buckets_of}
use Rattle.lh_settling.specs.ClosedFile.{ClosedFile, IsClosed}
use Rattle.lh_settling.specs.Contents.{StandsAs, IsFirstStray}
use Rattle.lh_settling.specs.Settled.{map_in, left_by, IsStamped, IsLegal, Settled}
use Rattle.lh_settling.specs.SettleFault.{IsDue}
use Rattle.lh_settling.specs.Laws.{AnswerLaw}
use Rattle.lh_settling.proofs.FaultLaws.{within_size}
use Rattle.lh_settling.proofs.Histories.{length-replies}
use Rattle.lh_settling.proofs.Placed.{placed}
use Rattle.lh_settling.proofs.Telling.{told_number, told_reply, told_list}
use Rattle.lh_settling.proofs.Sorting.{order_of}
use Rattle.lh_settling.proofs.Choosing.{FirstOf, stray_or_not, home_or_not}

-- lists of one length have both an element where they first differ
both_there : {X : Type 0} (xs ys : List X) (t : ℕ) → length xs ≡ length ys → slice_get xs t ≢ slice_get ys t
    → (x : X) × (y : X) × (slice_get xs t ≡ Some x) × (slice_get ys t ≡ Some y)
both_there [] [] t e h = absurd (h refl)
both_there [] (y ∷ ys) t e h = absurd (omega (arith, e))
both_there (x ∷ xs) [] t e h = absurd (omega (arith, e))
both_there (x ∷ xs) (y ∷ ys) zero e h = (x, y, refl, refl)
both_there (x ∷ xs) (y ∷ ys) (suc t) e h = both_there xs ys t (omega (arith, e)) h

module _ (law : AddressLaw) (opening : Lists) (closed : ClosedFile) (acts : List ActLine) (kept : IsClosed closed) where
  abbrev Said : Type 0
  Said = (Settled opening closed acts) ⊎ ((fault : SettleFault) × (fault ≢ Memory) × IsDue opening closed acts fault)

  with_contents : (history : List ActLine) → IsStamped closed acts history → IsLegal opening history
      → ((q : List ℕ) → StandsAs (left_by opening history) closed.lists q) → Said
  with_contents history h l stands = ⊎_elim
      (λ (home : EachPlace (IsHome closed.config.initial (buckets_of closed.root)) closed.lists).
      inl (
        history,
        record {
          stamped = h;
          legal = l;
          placed = placed closed.config.initial (buckets_of closed.root)
              (left_by opening history) closed.lists (within_size law closed kept) stands home;
        },
      ))
      (λ (f : FirstOf closed.config.initial (buckets_of closed.root) closed.lists). inr
      (Placed f.0 f.1, real f.0 f.1, (history, h, l, stands, f.2)))
      (home_or_not closed.config.initial (buckets_of closed.root) closed.lists)
    where
      real : (b : ℕ) (k : List ℕ) → Placed b k ≢ Memory
      real b k e = cc

  with_replies : (history : List ActLine) → IsStamped closed acts history → IsLegal opening history → Said
  with_replies history h l = ⊎_elim
      (λ (stands : (q : List ℕ) → StandsAs (left_by opening history) closed.lists q). with_contents history h l stands)
      (λ (s : (k : List ℕ) × IsFirstStray (left_by opening history) closed.lists k). inr
      (Content s.0, real s.0, (history, h, l, s.1)))
      (stray_or_not (left_by opening history) closed.lists)
    where
      real : (k : List ℕ) → Content k ≢ Memory
      real k e = cc

  with_stamps : (history : List ActLine) → IsStamped closed acts history → Said
  with_stamps history h = ⊎_elim
      (λ (l : IsLegal opening history). with_replies history h l)
      (λ (d : (t : ℕ) × FirstDiffer (replies_of history) (replies (map_in opening) (calls_of history)) t).
      let b = both_there (replies_of history) (replies (map_in opening) (calls_of history)) d.0 many d.1.here in
      inr (Reply d.0 b.0 b.1, real d.0 b.0 b.1, (history, h, record { differ = d.1; was = b.2; was_due = b.3 })))
      (told_list told_reply (replies_of history) (replies (map_in opening) (calls_of history)))
    where
      real : (t : ℕ) (g d : ReplyOf) → Reply t g d ≢ Memory
      real t g d e = cc

      many : length (replies_of history) ≡ length (replies (map_in opening) (calls_of history))
      many = length-map history (λ (a : ActLine). a.reply) ∙ sym (length-map history (λ (a : ActLine). a.call))
          ∙ sym (length-replies (map_in opening) (calls_of history))

  with_root : closed.root % 2 ≡ 0 → Said
  with_root even =
      let o = order_of acts in
      ⊎_elim
      (λ (same : stamps_of o.0 ≡ range_with_len 0 closed.stamps). with_stamps o.0
      (record { whole = even; order = o.1; stamps = same }))
      (λ (d : (t : ℕ) × FirstDiffer (stamps_of o.0) (range_with_len 0 closed.stamps) t).
      inr (MissingStamp d.0, real d.0, record { whole = even; history = o.0; order = o.1; differ = d.1 }))
      (told_list told_number (stamps_of o.0) (range_with_len 0 closed.stamps))
    where
      real : (t : ℕ) → MissingStamp t ≢ Memory
      real t e = cc

  said : Said
  said = ⊎_elim
      (λ (below : closed.root % 2 < 1). with_root (omega arith))
      (λ (past : 1 ≤ closed.root % 2). inr (SplitUnderWay, real, (let odd : closed.root % 2 ≡ 1 = omega arith in odd)))
      (cases_lt (closed.root % 2) 1)
    where
      real : SplitUnderWay ≢ Memory
      real e = cc

-- a closed file is settled, or a fault is due that isn't out of memory
pub answer_law : AddressLaw → AnswerLaw
answer_law law opening closed acts kept = said law opening closed acts kept
