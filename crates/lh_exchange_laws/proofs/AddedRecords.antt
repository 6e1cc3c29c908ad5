-- What calls leave that add records to an empty file, each under a key of its own.
use Rattle.std.proofs.Common.{◌≡◌, ℕ, ◌+◌, ◌<◌, ◌||◌, nat_lt, not, Bool, true, false, cond, true≢false, List, [], ◌∷◌}
use Rattle.std.proofs.Common.{◌++◌, map, length, Option, None, Some, is_some, refl, sym, ap, subst, ◌∙◌, arith}
use Rattle.std.proofs.Common.{append_assoc, append-nil}
use Rattle.std.specs.FinMap.{contains_key, empty, find, from_entries, from_entries_push, get, get-from_entries, insert}
use Rattle.std.specs.Cmp.Lexicographic.{nat_list_cmp_total, nat_list_eq_equiv, slice_cmp, texts_ties}
use Rattle.std.specs.List.{IsDistinct, list_any, position, position_or_len}
use Rattle.std.specs.Map.{keys_of as entry_keys, lookup}
use Rattle.std.specs.Ordering.{nat_cmp}
use Rattle.std.specs.Str.{bytes_eq}
use Rattle.std.proofs.lemmas.Bool.{false_from_ne_true}
use Rattle.std.proofs.lemmas.Bool.Decides.{nat_tests}
use Rattle.std.proofs.lemmas.List.{map-append}
use Rattle.std.proofs.lemmas.Map.Keys.{IsDistinct-push}
use Rattle.std.proofs.lemmas.Map.Made.{is_some-lookup}
use Rattle.lh_page.specs.declared.pair.Pair.{Pair}
use Rattle.lh_page.specs.Records.{keys_of}
use Rattle.lh_bucket.specs.declared.call.Reply.{Reply}
use Rattle.lh_bucket.specs.declared.call.Reply.TheVariants.{Exists, Inserted}
use Rattle.lh_bucket.specs.PlainMap.{Records, after, outcome, replies}
use Rattle.lh_bucket.specs.Records.{entry_of, map_of}
use Rattle.lh_subcommands.specs.Loading.{adding, before_first_met, meets_key}
use Rattle.lh_exchange_laws.proofs.SameRecords.{Distinct, keys_are_exact}

-- a search by the order of keys finds what one by their bytes does
find_lookup : (q : List ℕ) (es : List (List ℕ × List ℕ)) → find (slice_cmp nat_cmp) q es ≡ lookup (bytes_eq q) es
find_lookup q [] = refl
find_lookup q (e ∷ es) =
    ap (λ b. cond b (Some e.1) (find (slice_cmp nat_cmp) q es)) (sym (texts_ties q e.0))
    ∙ ap (cond (bytes_eq q e.0) (Some e.1)) (find_lookup q es)

-- records have the keys of the entries that they make
entry_keys-map : (pairs : List Pair) → entry_keys (map entry_of pairs) ≡ keys_of pairs
entry_keys-map [] = refl
entry_keys-map (p ∷ ps) = ap (λ ks. p.key ∷ ks) (entry_keys-map ps)

-- what the map of some records has at a key, before it is looked up
get_found : (pairs : List Pair) (q : List ℕ) → get (map_of pairs) q ≡ find (slice_cmp nat_cmp) q (map entry_of pairs)
unfolding map_of
get_found pairs q = get-from_entries nat_list_cmp_total (map entry_of pairs) q

-- whether the map has a key is whether a record has it
key_in : (pairs : List Pair) (q : List ℕ) (b : Bool) → contains_key (map_of pairs) q ≡ b →
    list_any (bytes_eq q) (keys_of pairs) ≡ b
key_in pairs q b e =
    ap (list_any (bytes_eq q)) (sym (entry_keys-map pairs)) ∙ sym (is_some-lookup (bytes_eq q) (map entry_of pairs))
    ∙ ap is_some (sym (find_lookup q (map entry_of pairs))) ∙ ap is_some (sym (get_found pairs q)) ∙ e

-- what isn't something is nothing
none_of : {X : Type 0} (o : Option X) → is_some o ≡ false → o ≡ None
none_of None h = refl
none_of (Some x) h = absurd (true≢false h)

-- one record more, whose key is new, adds its value under its key
map_of-push : (pairs : List Pair) (p : Pair) → contains_key (map_of pairs) p.key ≡ false →
    map_of (pairs ++ p ∷ []) ≡ insert (map_of pairs) p.key p.value
unfolding map_of
map_of-push pairs p new =
    ap from_entries (map-append entry_of pairs (p ∷ []))
    ∙ from_entries_push nat_list_cmp_total keys_are_exact (map entry_of pairs) p.key p.value
    (sym (get_found pairs p.key) ∙ none_of (get (map_of pairs) p.key) new)

-- and is another key
distinct-push : (pairs : List Pair) (p : Pair) → Distinct pairs → contains_key (map_of pairs) p.key ≡ false →
    Distinct (pairs ++ p ∷ [])
distinct-push pairs p d new =
    subst (IsDistinct bytes_eq) (sym (map-append (λ (q : Pair). q.key) pairs (p ∷ [])))
    (IsDistinct-push nat_list_eq_equiv (keys_of pairs) p.key d (key_in pairs p.key false new))

-- an insert that does not meet its key, and whatever follows it
reply_new : (b rest : Bool) → (meets_key (cond b Exists Inserted) || rest) ≡ false → b ≡ false
reply_new true rest h = absurd (true≢false h)
reply_new false rest h = refl

-- the same of what follows
reply_rest : (b rest : Bool) → (meets_key (cond b Exists Inserted) || rest) ≡ false → rest ≡ false
reply_rest true rest h = absurd (true≢false h)
reply_rest false rest h = h

-- where none of some calls meets its key, they leave the map of the records that were there and those that they add,
-- and no key stands twice
added : (done pairs : List Pair) → Distinct done →
    list_any meets_key (replies (map_of done) (map adding pairs)) ≡ false →
    (outcome (map_of done) (map adding pairs) ≡ map_of (done ++ pairs)) × Distinct (done ++ pairs)
added done [] d none =
    (ap map_of (sym (append-nil done)), subst Distinct (sym (append-nil done)) d)
added done (p ∷ ps) d none =
    let had = contains_key (map_of done) p.key in
    let rest = list_any meets_key (replies (after (map_of done) (adding p)) (map adding ps)) in
    let new : had ≡ false = reply_new had rest none in
    let left : after (map_of done) (adding p) ≡ map_of (done ++ p ∷ []) =
    ap (λ b. cond b (map_of done) (insert (map_of done) p.key p.value)) new ∙ sym (map_of-push done p new) in
    let more =
    added (done ++ p ∷ []) ps (distinct-push done p d new)
    (subst (λ (m : Records). list_any meets_key (replies m (map adding ps)) ≡ false) left
    (reply_rest had rest none)) in (
      ap (λ (m : Records). outcome m (map adding ps)) left ∙ more.0 ∙ ap map_of (append_assoc done (p ∷ []) ps),
      subst Distinct (append_assoc done (p ∷ []) ps) more.1,
    )

-- the first insert that meets its key stands before the end
met_within : (given : List Reply) → list_any meets_key given ≡ true → position_or_len meets_key given < length given
met_within [] h = absurd (true≢false (sym h))
met_within (r ∷ rs) h = by (meets_key r) (met_within rs) h
  where
    by : (b : Bool) → (list_any meets_key rs ≡ true → position_or_len meets_key rs < length rs) →
        (b || list_any meets_key rs) ≡ true → cond (not b) (1 + position_or_len meets_key rs) 0 < length (r ∷ rs)
    by true ih h = omega arith
    by false ih h = omega (arith, ih h)

-- a place before the end is a place
not_none : (n m : ℕ) → n < m → cond (nat_lt n m) (Some n) None ≡ None → ⊥
not_none n m lt h = by (nat_lt n m) (grind (arith, nat_tests)) h
  where
    by : (b : Bool) → b ≡ true → cond b (Some n) None ≡ None → ⊥
    by true is e = cc
    by false is e = true≢false (sym is)

-- no insert meets its key where none is the first to do so
none_met : (given : List Reply) → position meets_key given ≡ None → list_any meets_key given ≡ false
none_met given h =
    false_from_ne_true (list_any meets_key given)
    (λ any. not_none (position_or_len meets_key given) (length given) (met_within given any) h)

-- calls that add records, none of which meets its key, leave the map of the records, no key of which stands twice
pub added_to_none : (pairs : List Pair) → before_first_met (map adding pairs) ≡ None →
    (outcome empty (map adding pairs) ≡ map_of pairs) × Distinct pairs
unfolding map_of IsDistinct
added_to_none pairs h = added [] pairs tt (none_met (replies empty (map adding pairs)) h)
