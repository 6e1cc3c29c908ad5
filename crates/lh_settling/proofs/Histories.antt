-- Calls that are taken through a plain map
use Rattle.std.proofs.Common.{◌≡◌, ℕ, zero, suc, ◌+◌, ◌<◌, ◌≤◌, ⊎_elim, List, [], ◌∷◌, ◌++◌, append_assoc, append-nil}
use Rattle.std.proofs.Common.{length, take, get_or, Option, Some, None, refl, sym, ap, ◌∙◌, arith}
use Rattle.std.specs.List.{slice_get}
use Rattle.std.specs.Option.{option_map}
use Rattle.std.proofs.lemmas.Bool.{cases_lt}
use Rattle.std.proofs.lemmas.List.{take_more, map-append, length-map}
use Rattle.std.proofs.lemmas.Option.{same_Some, slice_get-map, slice_get-get_or, slice_get_within, slice_get_past}
use Rattle.std.proofs.lemmas.Option.{get_or_from_slice_get}
use Rattle.lh_page.specs.declared.pair.Pair.{Pair}
use Rattle.lh_bucket.specs.declared.call.Call.{Call}
use Rattle.lh_bucket.specs.declared.call.Call.TheVariants.{Insert}
use Rattle.lh_bucket.specs.declared.call.Reply.{Reply}
use Rattle.lh_bucket.specs.PlainMap.{Records, reply, after, replies, outcome}
use Rattle.lh_bucket.specs.Listing.{all_of, list_at}
use Rattle.lh_settling.specs.declared.act.ActLine.{ActLine}
use Rattle.lh_settling.specs.Acts.{calls_of, replies_of}
use Rattle.lh_settling.specs.Replay.{calls_inserting}

-- calls and then others leave what the others leave of the map after the first
pub outcome-append : (m : Records) (xs ys : List Call) → outcome m (xs ++ ys) ≡ outcome (outcome m xs) ys
outcome-append m [] ys = refl
outcome-append m (x ∷ xs) ys = outcome-append (after m x) xs ys

-- the reply at a place is that of the map which the calls before it leave
pub reply_at : (m : Records) (calls : List Call) (n : ℕ) (c : Call) → slice_get calls n ≡ Some c
    → slice_get (replies m calls) n ≡ Some (reply (outcome m (take n calls)) c)
reply_at m [] n c e = none e
  where
    none : {G : Type 0} → ◌≡◌ {A = Option Call} None (Some c) → G
    none e = cc
reply_at m (x ∷ xs) zero c e = ap (λ y. Some (reply m y)) (same_Some x c e)
reply_at m (x ∷ xs) (suc n) c e = reply_at (after m x) xs n c e

-- there are as many replies as calls
pub length-replies : (m : Records) (calls : List Call) → length (replies m calls) ≡ length calls
length-replies m [] = refl
length-replies m (x ∷ xs) = ap suc (length-replies (after m x) xs)

-- lists that have the same at each place are one
pub same_list : {X : Type 0} (xs ys : List X) → ((p : ℕ) → slice_get xs p ≡ slice_get ys p) → xs ≡ ys
same_list [] [] h = refl
same_list [] (y ∷ ys) h = none (h 0)
  where
    none : {G : Type 0} → None ≡ Some y → G
    none e = cc
same_list (x ∷ xs) [] h = none (h 0)
  where
    none : {G : Type 0} → Some x ≡ None → G
    none e = cc
same_list (x ∷ xs) (y ∷ ys) h = λ i. same_Some x y (h 0) i ∷ same_list xs ys (λ p. h (suc p)) i

-- the records of some lists with others behind them are those of the first and then of the others
pub all_of-append : (xs ys : List (List Pair)) → all_of (xs ++ ys) ≡ all_of xs ++ all_of ys
all_of-append [] ys = refl
all_of-append (x ∷ xs) ys = ap (λ zs. x ++ zs) (all_of-append xs ys) ∙ sym (append_assoc x (all_of xs) (all_of ys))

-- a list of lists, one list further
pub all_of-more : (lists : List (List Pair)) (n : ℕ) → n < length lists
    → all_of (take (n + 1) lists) ≡ all_of (take n lists) ++ list_at lists n
all_of-more lists n below =
    ap all_of (take_more lists n [] below) ∙ all_of-append (take n lists) (list_at lists n ∷ [])
    ∙ ap (λ ps. all_of (take n lists) ++ ps) (append-nil (list_at lists n))

-- a record was inserted
pub inserted_more : (m r r' : Records) (ps : List Pair) (n : ℕ) (p : Pair) → slice_get ps n ≡ Some p
    → r ≡ outcome m (calls_inserting (take n ps)) → r' ≡ after r (Insert p.key p.value)
    → r' ≡ outcome m (calls_inserting (take (n + 1) ps))
inserted_more m r r' ps n p at before is =
    let below : n < length ps = slice_get_within ps n p at in
    is ∙ ap (λ r. after r (Insert p.key p.value)) before
    ∙ sym (outcome-append m (calls_inserting (take n ps)) (Insert p.key p.value ∷ []))
    ∙ ap (outcome m) (sym (map-append (λ (p : Pair). Insert p.key p.value) (take n ps) (p ∷ [])))
    ∙ ap (λ ps. outcome m (calls_inserting ps))
    (ap (λ x. take n ps ++ x ∷ []) (sym (get_or_from_slice_get ps n p p at)) ∙ sym (take_more ps n p below))

-- the records of a list were
pub loaded_more : (m r r' : Records) (lists : List (List Pair)) (n : ℕ) → n < length lists
    → r ≡ outcome m (calls_inserting (all_of (take n lists))) → r' ≡ outcome r (calls_inserting (list_at lists n))
    → r' ≡ outcome m (calls_inserting (all_of (take (n + 1) lists)))
loaded_more m r r' lists n below before is =
    is ∙ ap (λ r. outcome r (calls_inserting (list_at lists n))) before
    ∙ sym (outcome-append m (calls_inserting (all_of (take n lists))) (calls_inserting (list_at lists n)))
    ∙ ap (outcome m) (sym (map-append (λ (p : Pair). Insert p.key p.value) (all_of (take n lists)) (list_at lists n))
    ∙ ap calls_inserting (sym (all_of-more lists n below)))

-- the act at a place of a history, its call and its reply
module _ (m : Records) (history : List ActLine) (n : ℕ) (act : ActLine) (below : n < length history)
    (is : act ≡ get_or history n act) where
  at : slice_get history n ≡ Some act
  at = slice_get-get_or history n act below ∙ ap Some (sym is)

  call_at : slice_get (calls_of history) n ≡ Some act.call
  call_at = slice_get-map (λ (a : ActLine). a.call) history n ∙ ap (option_map (λ (a : ActLine). a.call)) at

  -- the reply that was given at a place is that of the act there
  pub given_at : slice_get (replies_of history) n ≡ Some act.reply
  given_at = slice_get-map (λ (a : ActLine). a.reply) history n ∙ ap (option_map (λ (a : ActLine). a.reply)) at

  -- the reply that is due there is that of the map which the calls before it leave
  pub due_at : (r : Records) (due : Reply) → r ≡ outcome m (take n (calls_of history)) → due ≡ reply r act.call
      → slice_get (replies m (calls_of history)) n ≡ Some due
  due_at r due left e = reply_at m (calls_of history) n act.call call_at
      ∙ ap Some (sym (e ∙ ap (λ r. reply r act.call) left))

  -- the map after the act's call is the one that the calls up to it leave
  pub left_more : (r r' : Records) → r ≡ outcome m (take n (calls_of history)) → r' ≡ after r act.call
      → r' ≡ outcome m (take (n + 1) (calls_of history))
  left_more r r' left e =
      let within : n < length (calls_of history) = slice_get_within (calls_of history) n act.call call_at in
      e ∙ ap (λ r. after r act.call) left
      ∙ sym (outcome-append m (take n (calls_of history)) (act.call ∷ []))
      ∙ ap (outcome m) (ap (λ x. take n (calls_of history) ++ x ∷ [])
      (sym (get_or_from_slice_get (calls_of history) n act.call act.call call_at))
      ∙ sym (take_more (calls_of history) n act.call within))

-- all replies were looked at
pub all_legal : (m : Records) (history : List ActLine) (n : ℕ) → length history ≤ n
    → ((p : ℕ) → p < n → slice_get (replies_of history) p ≡ slice_get (replies m (calls_of history)) p)
    → replies_of history ≡ replies m (calls_of history)
all_legal m history n all same = same_list _ _ (λ p. ⊎_elim
    (λ (below : p < n). same p below)
    (λ (past : n ≤ p).
    slice_get_past (replies_of history) p (omega (arith, length-map history (λ (a : ActLine). a.reply)))
    ∙ sym (slice_get_past (replies m (calls_of history)) p
    (omega (arith, length-replies m (calls_of history), length-map history (λ (a : ActLine). a.call)))))
    (cases_lt p n))
