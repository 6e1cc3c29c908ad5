-- A file is settled, or one fault is due
use Rattle.std.proofs.Common.{◌≡◌, ◌≢◌, ℕ, ◌%◌, ◌<◌, ◌≤◌, ⊎_elim, List, length, refl, sym, ap, subst, ◌∙◌, arith}
use Rattle.std.specs.declared.cmp.Ordering.TheVariants.{Less, Equal, Greater}
use Rattle.std.specs.List.{range_with_len, slice_get}
use Rattle.std.specs.Ordering.{nat_cmp, ordering_reverse}
use Rattle.std.specs.Cmp.Lexicographic.{slice_cmp, nat_list_cmp_total}
use Rattle.std.proofs.lemmas.Bool.{cases_lt}
use Rattle.std.proofs.lemmas.Option.{same_Some}
use Rattle.lh_addr.specs.Growth.{address, AddressLaw}
use Rattle.lh_bucket.specs.declared.call.Reply.{Reply as ReplyOf}
use Rattle.lh_addr.specs.Fnv.{code_of}
use Rattle.lh_page.specs.declared.pair.Pair.{Pair}
use Rattle.lh_page.specs.Records.{key_at}
use Rattle.lh_bucket.specs.Listing.{Lists, IsHome, list_at}
use Rattle.lh_bucket.specs.PlainMap.{replies}
use Rattle.lh_settling.specs.declared.act.ActLine.{ActLine}
use Rattle.lh_settling.specs.declared.settle_fault.SettleFault.{SettleFault}
use Rattle.lh_settling.specs.declared.settle_fault.SettleFault.TheVariants.{SplitUnderWay, MissingStamp, Reply, Content}
use Rattle.lh_settling.specs.declared.settle_fault.SettleFault.TheVariants.{Placed, Memory}
use Rattle.lh_settling.specs.Acts.{stamps_of, calls_of, replies_of}
use Rattle.lh_addr.specs.RootWord.{buckets_of}
use Rattle.lh_settling.specs.ClosedFile.{ClosedFile, IsClosed}
use Rattle.lh_settling.specs.Contents.{IsBefore, StandsAs, IsFirstStray, IsFirstAway}
use Rattle.lh_settling.specs.Settled.{map_in, left_by, IsStamped, IsLegal, HoldsMap}
use Rattle.lh_settling.specs.SettleFault.{IsMissing, IsFirstWrong, IsDue}
use Rattle.lh_settling.specs.Laws.{SettledLaw, OneFaultLaw}
use Rattle.lh_settling.proofs.Placed.{placed_stands, placed_home}
use Rattle.lh_settling.proofs.Values.{exact}
use Rattle.lh_settling.proofs.Verdicts.{same_stamps, history_law, first_differ_one, differ_not_same}

not_both : (root : ℕ) → root % 2 ≡ 0 → root % 2 ≡ 1 → ⊥
not_both root e o = omega arith

missing_not_history : (closed : ClosedFile) (acts history : List ActLine) (t : ℕ) → IsMissing closed acts t
    → IsStamped closed acts history → ⊥
missing_not_history closed acts history t m h =
    differ_not_same (stamps_of m.history) (range_with_len 0 closed.stamps) (stamps_of history) t
    (same_stamps acts m.history history m.order h.order) h.stamps m.differ

missing_one : (closed : ClosedFile) (acts : List ActLine) (s t : ℕ) → IsMissing closed acts s → IsMissing closed acts t
    → s ≡ t
missing_one closed acts s t m n =
    first_differ_one (stamps_of m.history) (range_with_len 0 closed.stamps) (stamps_of n.history) s t
    (same_stamps acts m.history n.history m.order n.order) m.differ n.differ

wrong_not_legal : (opening : Lists) (history : List ActLine) (t : ℕ) (g d : ReplyOf)
    → IsFirstWrong opening history t g d → IsLegal opening history → ⊥
wrong_not_legal opening history t g d w l = w.differ.here (ap (λ ys. slice_get ys t) l)

wrong_one : (opening : Lists) (history : List ActLine) (s t : ℕ) (g d k e : ReplyOf)
    → IsFirstWrong opening history s g d → IsFirstWrong opening history t k e → Reply s g d ≡ Reply t k e
wrong_one opening history s t g d k e v w =
    let given = replies_of history in
    let due = replies (map_in opening) (calls_of history) in
    let same : s ≡ t = first_differ_one given due given s t refl v.differ w.differ in
    let one : g ≡ k = same_Some g k (sym v.was ∙ ap (slice_get given) same ∙ w.was) in
    let two : d ≡ e = same_Some d e (sym v.was_due ∙ ap (slice_get due) same ∙ w.was_due) in
    λ i. Reply (same i) (one i) (two i)

-- the least key of which a fact fails is one
least_one : (Good : List ℕ → Type 0) (k l : List ℕ) → ¬ Good k → ¬ Good l → ((q : List ℕ) → IsBefore q k → Good q)
    → ((q : List ℕ) → IsBefore q l → Good q) → k ≡ l
least_one Good k l bad_k bad_l before_k before_l =
    elim (slice_cmp nat_cmp k l) as (λ r. slice_cmp nat_cmp k l ≡ r → k ≡ l) [
      | Less ↦ λ e. absurd (bad_k (before_l k e))
      | Equal ↦ λ e. exact k l e
      | Greater ↦ λ e. absurd (bad_l (before_k l (nat_list_cmp_total.antisymm l k ∙ ap ordering_reverse e)))
    ] refl

module _ (initial size : ℕ) (lists : List (List Pair)) where
  away_not_home : (b : ℕ) (k : List ℕ) → IsFirstAway initial size lists b k
      → ((p : ℕ) → p < length (list_at lists b) → IsHome initial size b (list_at lists b) p) → ⊥
  away_not_home b k f home = f.stands.away
      (ap (λ q. address initial size (code_of q)) (sym f.stands.here) ∙ home f.stands.place f.stands.within)

  -- a key is at home in a bucket wherever it stands there
  abbrev AtHome : ℕ → List ℕ → Type 0
  AtHome b q = (p : ℕ) → p < length (list_at lists b) → key_at (list_at lists b) p ≡ q
      → address initial size (code_of q) ≡ b

  same_bucket : (b : ℕ) (k l : List ℕ) → IsFirstAway initial size lists b k → IsFirstAway initial size lists b l → k ≡ l
  same_bucket b k l f g = least_one (AtHome b) k l (λ h. f.stands.away (h f.stands.place f.stands.within f.stands.here))
      (λ h. g.stands.away (h g.stands.place g.stands.within g.stands.here)) (before k f) (before l g)
    where
      before : (k : List ℕ) → IsFirstAway initial size lists b k → (q : List ℕ) → IsBefore q k → AtHome b q
      before k f q less p below at = ap (λ q. address initial size (code_of q)) (sym at)
          ∙ f.stands.least p below (subst (λ q. IsBefore q k) (sym at) less)

  away_one : (b c : ℕ) (k l : List ℕ) → IsFirstAway initial size lists b k → IsFirstAway initial size lists c l
      → Placed b k ≡ Placed c l
  away_one b c k l f g = ⊎_elim
      (λ (below : b < c). absurd (away_not_home b k f (λ p within. g.before b p below within)))
      (λ (past : c ≤ b). ⊎_elim
      (λ (below : c < b). absurd (away_not_home c l g (λ p within. f.before c p below within)))
      (λ (back : b ≤ c). let same : b ≡ c = omega arith in
      let key : k ≡ l = same_bucket b k l f (subst (λ c. IsFirstAway initial size lists c l) (sym same) g) in
      λ i. Placed (same i) (key i))
      (cases_lt c b))
      (cases_lt b c)

module _ (opening : Lists) (closed : ClosedFile) (acts : List ActLine) where
  abbrev Due : SettleFault → Type 0
  Due fault = IsDue opening closed acts fault

  with_split : (g : SettleFault) → g ≢ Memory → closed.root % 2 ≡ 1 → Due g → SplitUnderWay ≡ g
  with_split SplitUnderWay n odd d = refl
  with_split (MissingStamp t) n odd d = absurd (not_both closed.root d.whole odd)
  with_split (Reply t g e) n odd d = absurd (not_both closed.root d.1.whole odd)
  with_split (Content k) n odd d = absurd (not_both closed.root d.1.whole odd)
  with_split (Placed b k) n odd d = absurd (not_both closed.root d.1.whole odd)
  with_split Memory n odd d = absurd (n refl)

  with_missing : (s : ℕ) (g : SettleFault) → MissingStamp s ≢ Memory → g ≢ Memory → IsMissing closed acts s → Due g
      → MissingStamp s ≡ g
  with_missing s SplitUnderWay m n miss d = sym (with_split (MissingStamp s) m d miss)
  with_missing s (MissingStamp t) m n miss d = ap MissingStamp (missing_one closed acts s t miss d)
  with_missing s (Reply t g e) m n miss d = absurd (missing_not_history closed acts d.0 s miss d.1)
  with_missing s (Content k) m n miss d = absurd (missing_not_history closed acts d.0 s miss d.1)
  with_missing s (Placed b k) m n miss d = absurd (missing_not_history closed acts d.0 s miss d.1)
  with_missing s Memory m n miss d = absurd (n refl)

  with_reply : (s : ℕ) (h e : ReplyOf) (g : SettleFault) → Reply s h e ≢ Memory → g ≢ Memory → Due (Reply s h e) → Due g
      → Reply s h e ≡ g
  with_reply s h e SplitUnderWay m n r d = sym (with_split (Reply s h e) m d r)
  with_reply s h e (MissingStamp t) m n r d = sym (with_missing t (Reply s h e) n m d r)
  with_reply s h e (Reply t k f) m n r d =
      wrong_one opening r.0 s t h e k f r.2
      (subst (λ x. IsFirstWrong opening x t k f) (history_law closed acts d.0 r.0 d.1 r.1) d.2)
  with_reply s h e (Content k) m n r d =
      absurd (wrong_not_legal opening r.0 s h e r.2
      (subst (IsLegal opening) (history_law closed acts d.0 r.0 d.1 r.1) d.2))
  with_reply s h e (Placed b k) m n r d =
      absurd (wrong_not_legal opening r.0 s h e r.2
      (subst (IsLegal opening) (history_law closed acts d.0 r.0 d.1 r.1) d.2))
  with_reply s h e Memory m n r d = absurd (n refl)

  with_content : (k : List ℕ) (g : SettleFault) → Content k ≢ Memory → g ≢ Memory → Due (Content k) → Due g
      → Content k ≡ g
  with_content k SplitUnderWay m n r d = sym (with_split (Content k) m d r)
  with_content k (MissingStamp t) m n r d = sym (with_missing t (Content k) n m d r)
  with_content k (Reply t h e) m n r d = sym (with_reply t h e (Content k) n m d r)
  with_content k (Content l) m n r d =
      let stray = subst (λ x. IsFirstStray (left_by opening x) closed.lists l)
      (history_law closed acts d.0 r.0 d.1 r.1) d.3 in
      ap Content (least_one (StandsAs
      (left_by opening r.0) closed.lists) k l r.3.stray stray.stray r.3.least stray.least)
  with_content k (Placed b l) m n r d =
      absurd (r.3.stray (subst (λ x. StandsAs (left_by opening x) closed.lists k)
      (history_law closed acts d.0 r.0 d.1 r.1) (d.3 k)))
  with_content k Memory m n r d = absurd (n refl)

  with_placed : (b : ℕ) (k : List ℕ) (g : SettleFault) → Placed b k ≢ Memory → g ≢ Memory → Due (Placed b k) → Due g
      → Placed b k ≡ g
  with_placed b k SplitUnderWay m n r d = sym (with_split (Placed b k) m d r)
  with_placed b k (MissingStamp t) m n r d = sym (with_missing t (Placed b k) n m d r)
  with_placed b k (Reply t h e) m n r d = sym (with_reply t h e (Placed b k) n m d r)
  with_placed b k (Content l) m n r d = sym (with_content l (Placed b k) n m d r)
  with_placed b k (Placed c l) m n r d =
      away_one closed.config.initial (buckets_of closed.root) closed.lists b c k l r.4 d.4
  with_placed b k Memory m n r d = absurd (n refl)

-- one fault at most is due besides out of memory
pub fault_law : OneFaultLaw
fault_law opening closed acts SplitUnderWay g m n f d = with_split opening closed acts g n f d
fault_law opening closed acts (MissingStamp s) g m n f d = with_missing opening closed acts s g m n f d
fault_law opening closed acts (Reply s h e) g m n f d = with_reply opening closed acts s h e g m n f d
fault_law opening closed acts (Content k) g m n f d = with_content opening closed acts k g m n f d
fault_law opening closed acts (Placed b k) g m n f d = with_placed opening closed acts b k g m n f d
fault_law opening closed acts Memory g m n f d = absurd (m refl)

-- an address is a bucket of the file
pub within_size : AddressLaw → (closed : ClosedFile) → IsClosed closed → (code : ℕ)
    → address closed.config.initial (buckets_of closed.root) code < buckets_of closed.root
within_size law closed kept code =
    ((law closed.config.initial (buckets_of closed.root) code
    (address closed.config.initial (buckets_of closed.root) code) kept.config.initial.0 kept.from_initial).0 refl).0

-- where a file is settled no fault is due besides out of memory
pub settled_law : AddressLaw → SettledLaw
settled_law law opening closed acts SplitUnderWay kept s d = absurd (not_both closed.root s.1.stamped.whole d)
settled_law law opening closed acts (MissingStamp t) kept s d =
    absurd (missing_not_history closed acts s.0 t d s.1.stamped)
settled_law law opening closed acts (Reply t g e) kept s d =
    absurd (wrong_not_legal opening d.0 t g e d.2
    (subst (IsLegal opening) (history_law closed acts s.0 d.0 s.1.stamped d.1) s.1.legal))
settled_law law opening closed acts (Content k) kept s d =
    let holds = subst (λ x. HoldsMap closed (left_by opening x))
    (history_law closed acts s.0 d.0 s.1.stamped d.1) s.1.placed in
    absurd (d.3.stray (placed_stands closed.config.initial (buckets_of closed.root) (left_by opening d.0) closed.lists
    (within_size law closed kept) holds k))
settled_law law opening closed acts (Placed b k) kept s d =
    let home = placed_home closed.config.initial (buckets_of closed.root) (left_by opening s.0) closed.lists
    (within_size law closed kept) s.1.placed in
    absurd (away_not_home closed.config.initial (buckets_of closed.root) closed.lists b k d.4
    (λ p below. home b p below))
settled_law law opening closed acts Memory kept s d = refl
