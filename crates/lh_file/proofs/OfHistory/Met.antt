-- What an act met is what the log leaves there, and no update of a key is lost
use Rattle.std.proofs.Common.{
  ◌≡◌,
  ◌⊎◌,
  ⊎_elim,
  ◌&&◌,
  ◌+◌,
  ℕ,
  zero,
  suc,
  Bool,
  true,
  false,
  cond,
  List,
  [],
  ◌∷◌,
  Option,
  Some,
}
use Rattle.std.proofs.Common.{None, is_some, take, refl, sym, ap, ◌∙◌, subst, arith}
use Rattle.std.specs.FinMap.{get, insert, get-insert}
use Rattle.std.specs.Cmp.Lexicographic.{nat_list_cmp_total, texts_ties}
use Rattle.std.specs.Str.{bytes_eq}
use Rattle.std.proofs.lemmas.Bool.{false≢true}
use Rattle.std.proofs.lemmas.Slice.Eq.{bytes_eq-Decides}
use mathlib.Core.Option.{some, some-ne-none, some-injective}
use lib.ListN.{get_elem?}
use Rattle.lh_bucket.specs.PlainMap.{Records, after, key_of, IsSearch}
use Rattle.lh_bucket.specs.PlainMapLaws.{get_kept, after_elsewhere}
use Rattle.lh_bucket.specs.declared.call.Call.{Call}
use Rattle.lh_bucket.specs.declared.call.Call.TheVariants.{Search, Insert, Delete, Replace}
use Rattle.lh_settling.specs.Settled.{map_in}
use Rattle.lh_file.specs.Closing.{NoneOutside}
use Rattle.lh_file.specs.History.Met.{
  MetLaw,
  IsUpdateBy,
  OnlyUpdate,
  IsMadeBy,
  UpdatesLaw,
  CounterLaw,
  is_replace,
  updates_of,
}
use Rattle.lh_file.specs.History.Met.{made_by}
use Rattle.lh_words.specs.History.Log.{passed, left_after, IsLegalAct, IsLegalLog}
use Rattle.lh_words.specs.declared.seat_view.Entry.{Entry}

-- an act at a place of a legal log is legal where the acts before it lead
legal_at : (m : Records) (log : List Entry) (place : ℕ) (e : Entry) → IsLegalLog m log →
    get_elem? log place ≡ some e → e.outside ≡ false → IsLegalAct (left_after m (take place log)) e
legal_at m [] place e legal at inside = absurd (some-ne-none e (sym at))
legal_at m (x ∷ log) zero e legal at inside =
    let same : x ≡ e = some-injective x e at in
    subst (IsLegalAct m) same (legal.0 (ap (λ (y : Entry). y.outside) same ∙ inside))
legal_at m (x ∷ log) (suc place) e legal at inside = legal_at (passed m x) log place e legal.1 at inside

pub met_law : MetLaw
met_law opening count place entries logs log done (size, legal, stand, begin) at inside =
    (legal_at _ log done.line.stamp done legal (stand place done at) inside).1

-- a call by another key leaves a key as it was
elsewhere : (m : Records) (call : Call) (key : List ℕ) → bytes_eq (key_of call) key ≡ false →
    get (after m call) key ≡ get m key
elsewhere m call key other =
    let p : List ℕ → Bool = λ k. bytes_eq k key in
    let here : p key ≡ true = (bytes_eq-Decides key key).1 refl in
    let read = λ (n : Records). get_kept n p key ∙ ap (λ b. cond b (get n key) None) here in
    sym (read (after m call)) ∙ ap (λ n. get n key) (after_elsewhere m p call other) ∙ read m

-- an update of a key puts there what it makes
replaced : (m : Records) (key was value : List ℕ) → get m key ≡ Some was →
    get (after m (Replace key value)) key ≡ Some value
replaced m key was value is =
    ap (λ o. get (cond (is_some o) (insert m key value) m) key) is
    ∙ get-insert nat_list_cmp_total m key value key
    ∙ ap (λ b. cond b (Some value) (get m key)) (sym (texts_ties key key) ∙ (bytes_eq-Decides key key).1 refl)

search_leaves : (m : Records) (call : Call) → IsSearch call → after m call ≡ m
search_leaves m (Search key) is = refl
search_leaves m (Insert key value) is = absurd (false≢true is)
search_leaves m (Delete key) is = absurd (false≢true is)
search_leaves m (Replace key value) is = absurd (false≢true is)

no_replace : (call : Call) → IsSearch call → is_replace call ≡ false
no_replace (Search key) is = refl
no_replace (Insert key value) is = refl
no_replace (Delete key) is = refl
no_replace (Replace key value) is = absurd (false≢true is)

same_value : (a b : List ℕ) → Some a ≡ Some b → a ≡ b
same_value a b e = cc

no_value : (a : List ℕ) → Some a ≡ None → ⊥
no_value a e = cc

module _ (makes : List ℕ → List ℕ) (first key : List ℕ) where
  -- an insert of the first value
  inserted : (m : Records) (n : ℕ) (o : Option (List ℕ)) → get m key ≡ o → IsMadeBy makes first n o →
      IsMadeBy makes first n (get (after m (Insert key first)) key)
  inserted m n (Some value) is made =
      subst (IsMadeBy makes first n)
      (sym (ap (λ o. get (cond (is_some o) m (insert m key first)) key) is ∙ is)) made
  inserted m n None is made =
      subst (IsMadeBy makes first n)
      (sym
      (ap (λ o. get (cond (is_some o) m (insert m key first)) key) is ∙ get-insert nat_list_cmp_total m key first key
      ∙ ap (λ b. cond b (Some first) (get m key)) (sym (texts_ties key key) ∙ (bytes_eq-Decides key key).1 refl)))
      (ap (λ k. made_by makes k first) (sym made))

  -- an update
  updated : (m : Records) (n : ℕ) (was : List ℕ) (o : Option (List ℕ)) → get m key ≡ o → o ≡ Some was →
      IsMadeBy makes first n o → IsMadeBy makes first (suc n) (get (after m (Replace key (makes was))) key)
  updated m n was (Some value) is same made =
      subst (IsMadeBy makes first (suc n)) (sym (replaced m key was (makes was) (is ∙ same)))
      (ap makes (sym (same_value value was same) ∙ made))
  updated m n was None is same made = absurd (no_value was (sym same))

  -- an act that isn't counted, and one that is
  counted : (e : Entry) (log : List Entry) (t : Bool) → (bytes_eq (key_of e.line.call) key && is_replace e.line.call)
      ≡ t →
      updates_of key (e ∷ log) ≡ cond t (suc (updates_of key log)) (updates_of key log)
  counted e log t is = ap (λ b. cond b (suc (updates_of key log)) (updates_of key log)) is

  -- one act more, and then the others
  one_more : (e : Entry) (log : List Entry) (m : Records) (n : ℕ) (b : Bool) → bytes_eq (key_of e.line.call) key ≡ b →
      IsLegalAct m e → passed m e ≡ after m e.line.call →
      (key_of e.line.call ≡ key → IsUpdateBy makes e ⊎ ((e.line.call ≡ Insert key first) ⊎ IsSearch e.line.call)) →
      IsMadeBy makes first n (get m key) →
      ((k : ℕ) → IsMadeBy makes first k (get (passed m e) key) →
      IsMadeBy makes first (k + updates_of key log) (get (left_after (passed m e) log) key)) →
      IsMadeBy makes first (n + updates_of key (e ∷ log)) (get (left_after m (e ∷ log)) key)
  one_more e log m n false other legal own only made rest =
      let same : n + updates_of key log ≡ n + updates_of key (e ∷ log) =
      ap (λ u. n + u) (sym (counted e log false (ap (λ b. b && is_replace e.line.call) other))) in
      subst (λ u. IsMadeBy makes first u (get (left_after m (e ∷ log)) key)) same
      (rest n
      (subst (IsMadeBy makes first n) (sym (ap (λ x. get x key) own ∙ elsewhere m e.line.call key other)) made))
  one_more e log m n true same legal own only made rest =
      let here : key_of e.line.call ≡ key = (bytes_eq-Decides (key_of e.line.call) key).0 same in
      let count = λ (t : Bool) (is : is_replace e.line.call ≡ t).
      counted e log t (ap (λ b. b && is_replace e.line.call) same ∙ is) in
      ⊎_elim
      (λ (update : IsUpdateBy makes e).
      let call : e.line.call ≡ Replace key (makes update.0) =
      update.2 ∙ ap (λ k. Replace k (makes update.0)) here in
      let met : get m key ≡ Some update.0 = ap (get m) (sym here) ∙ sym legal.1 ∙ update.1 in
      let one = count true (ap is_replace call) in
      let more : suc n + updates_of key log ≡ n + updates_of key (e ∷ log) = omega (arith, one) in
      subst (λ u. IsMadeBy makes first u (get (left_after m (e ∷ log)) key)) more
      (rest (suc n)
      (subst (IsMadeBy makes first (suc n)) (sym (ap (λ x. get x key) (own ∙ ap (after m) call)))
      (updated m n update.0 (get m key) refl met made))))
      (λ others.
      let none : is_replace e.line.call ≡ false =
      ⊎_elim (λ insert. ap is_replace insert) (λ search. no_replace e.line.call search) others in
      let after_it : IsMadeBy makes first n (get (passed m e) key) = ⊎_elim
      (λ (insert : e.line.call ≡ Insert key first).
      subst (IsMadeBy makes first n) (sym (ap (λ x. get x key) (own ∙ ap (after m) insert)))
      (inserted m n (get m key) refl made))
      (λ (search : IsSearch e.line.call).
      subst (IsMadeBy makes first n) (sym (ap (λ x. get x key) (own ∙ search_leaves m e.line.call search))) made)
      others in
      subst (λ u. IsMadeBy makes first u (get (left_after m (e ∷ log)) key)) (ap (λ u. n + u) (sym (count false none)))
      (rest n after_it))
      (only here)

  all_made : (n : ℕ) (log : List Entry) (m : Records) → IsLegalLog m log → NoneOutside log →
      OnlyUpdate makes first key log → IsMadeBy makes first n (get m key) →
      IsMadeBy makes first (n + updates_of key log) (get (left_after m log) key)
  all_made n [] m legal inside only made =
      let same : n ≡ n + 0 = omega arith in subst (λ u. IsMadeBy makes first u (get m key)) same made
  all_made n (e ∷ log) m legal inside only made =
      let in_history : e.outside ≡ false = inside 0 e refl in
      one_more e log m n (bytes_eq (key_of e.line.call) key) refl (legal.0 in_history)
      (ap (λ b. cond b m (after m e.line.call)) in_history) (only 0 e refl) made
      (λ k made.
      all_made k log (passed m e) legal.1 (λ j x there. inside (suc j) x there) (λ j x there. only (suc j) x there)
      made)

pub updates_law : UpdatesLaw
updates_law makes first key before log m = all_made makes first key before log m

-- the counters of a file that was closed whole
pub counter_law : CounterLaw
counter_law opening closed acts hand makes first key history full inside only absent =
    let told = history.1 in
    let home = history.2 full inside in
    let count : 0 + updates_of key history.0 ≡ updates_of key history.0 = omega arith in (
      subst (λ n. IsMadeBy makes first n (get (left_after (map_in opening) history.0) key)) count
          (all_made makes first key 0 history.0 (map_in opening) told.0.1 home.1
          (λ place e at. let own = home.2 place e at in only own.0 e own.1)
          (subst (IsMadeBy makes first 0) (sym absent) refl)),
      told.1,
    )
