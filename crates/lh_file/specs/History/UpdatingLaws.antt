-- A hand that only updates keys stays such a hand, by whatever call that only updates, divided and joined
use Rattle.std.proofs.Common.{
  ◌≡◌,
  ◌⊎◌,
  ⊎_elim,
  inl,
  inr,
  ℕ,
  Bool,
  true,
  false,
  List,
  [],
  ◌∷◌,
  ◌++◌,
  All,
  Ok,
  Err,
  Some,
  None,
}
use Rattle.std.proofs.Common.{Option, refl, sym, ap, ◌∙◌, subst, fold}
use Rattle.std.proofs.lemmas.List.Elements.{All-head, All-tail}
use lib.ListN.{get_or}
use Rattle.std.specs.Prelude.{Result, IfOk}
use Rattle.lh_bucket.specs.PlainMap.{key_of, IsSearch}
use Rattle.lh_bucket.specs.declared.call.Call.{Call}
use Rattle.lh_bucket.specs.declared.call.Call.TheVariants.{Search, Insert, Replace}
use Rattle.lh_bucket.specs.declared.call.Reply.{Reply}
use Rattle.lh_file.specs.Calls.Atomic.{Reaction, MakesAtOnce, Merges, Updates}
use Rattle.lh_file.specs.Closing.{NoneOutside}
use Rattle.lh_file.specs.FileState.{FileState, IsOf}
use Rattle.lh_file.specs.History.Met.{IsUpdateBy, OnlyUpdate}
use Rattle.lh_file.specs.Calls.Served.{Makes}
use Rattle.lh_file.specs.History.Entered.{HasEntered}
use Rattle.lh_file.specs.History.Updating.{IsUpdating, Follows}
use Rattle.lh_file.specs.Words.HandState.{HandState, seeing, united, IsBranch, AreJoined}
use Rattle.lh_file.specs.declared.fault.FileFault.{FileFault}
use Rattle.lh_words.specs.EachLaws.{each_snoc, each_none, each_append}
use Rattle.lh_words.specs.History.Log.{entry}
use Rattle.lh_words.specs.Views.{lessened}
use Rattle.lh_words.specs.declared.seat_view.Entry.{Entry}

module _ (makes : List ℕ → List ℕ) (first : List ℕ) where
  -- an act that updates its key, adds it with the first value or searches for it
  abbrev Kind : Entry → Type 0
  Kind e = IsUpdateBy makes e ⊎ ((e.line.call ≡ Insert (key_of e.line.call) first) ⊎ IsSearch e.line.call)

  abbrev At : List ℕ → Entry → Type 0
  At key e = key_of e.line.call ≡ key → IsUpdateBy makes e ⊎ ((e.line.call ≡ Insert key first) ⊎ IsSearch e.line.call)

  -- what such acts are, in and out of a hand
  abbrev AllUpdate : List Entry → Type 0
  AllUpdate entries = NoneOutside entries × ((key : List ℕ) → OnlyUpdate makes first key entries)

  none_update : AllUpdate []
  none_update = (each_none (λ e. e.outside ≡ false), λ key. each_none (At key))

  one_more : (entries : List Entry) (e : Entry) → AllUpdate entries → e.outside ≡ false → Kind e →
      AllUpdate (entries ++ e ∷ [])
  one_more entries e all inside kind = (
    each_snoc (λ e. e.outside ≡ false) entries e all.0 inside,
    λ key.
        each_snoc (At key) entries e (all.1 key) (λ here.
        ⊎_elim inl (λ others.
        inr (⊎_elim (λ insert. inl (insert ∙ ap (λ k. Insert k first) here)) inr others)) kind),
  )

  both : (a b : List Entry) → AllUpdate a → AllUpdate b → AllUpdate (a ++ b)
  both a b one two = (
    each_append (λ e. e.outside ≡ false) a b one.0 two.0,
    λ key. each_append (At key) a b (one.1 key) (two.1 key),
  )

  module _ (file : FileState) where
    -- a hand whose acts these are
    made_of : (hand : HandState) (entries : List Entry) → IsOf file hand → hand.entries ≡ entries → AllUpdate entries →
        IsUpdating makes first file hand
    made_of hand entries of is all = record {
      own = record { of = of; own = subst NoneOutside (sym is) all.0 };
      only = λ key. subst (OnlyUpdate makes first key) (sym is) (all.1 key);
    }

    acts_of : (hand : HandState) → IsUpdating makes first file hand → AllUpdate hand.entries
    acts_of hand u = (u.own.own, u.only)

    -- a call that reads and writes in one act
    at_once : {T : Type 0} (Does : Reaction T) (key : List ℕ) (old new : HandState) (result : Result T FileFault) →
        ((was : Option (List ℕ)) (t : T) (call : Call) (given : Reply) (stamp : ℕ) → key_of call ≡ key →
        Does key was t call given → Kind (entry false stamp call given was)) →
        MakesAtOnce true file key old Does result new → IsUpdating makes first file old →
        IsUpdating makes first file new
    at_once Does key old new (Ok t) kind m u =
        let met = m.met refl in
        made_of new _ m.made.of met.2
        (one_more old.entries (entry false met.0 m.call m.given m.was) (acts_of old u) refl
        (kind m.was t m.call m.given met.0 m.by m.does))
    at_once Does key old new (Err fault) kind m u =
        made_of new old.entries m.made.of m.made.err.entries (acts_of old u)

  -- many hands joined into one
  joined : (hand : HandState) (others : List HandState) → AllUpdate hand.entries →
      All (λ (other : HandState). AllUpdate other.entries) others → AllUpdate (fold united hand others).entries
  joined hand [] own all = own
  joined hand (other ∷ others) own all =
      let P : HandState → Type 0 = λ one. AllUpdate one.entries in
      joined (united hand other) others (both hand.entries other.entries own (All-head P other others all))
      (All-tail P other others all)

  each_acts : (file : FileState) (others : List HandState) → All (IsUpdating makes first file) others →
      All (λ (other : HandState). AllUpdate other.entries) others
  each_acts file others all k d below = acts_of file (get_or others k d) (all k d below)

-- an update by a closure
by_closure : (makes : List ℕ → List ℕ) (first : List ℕ) (returns : List ℕ → List ℕ → Type 0) (stamp : ℕ)
    (key was value : List ℕ) (call : Call) (given : Reply) → Follows makes returns → returns was value →
    key_of call ≡ key → call ≡ Replace key value → Kind makes first (entry false stamp call given (Some was))
by_closure makes first returns stamp key was value call given follows made by is =
    inl (was, refl, is ∙ ap (λ k. Replace k value) (sym by) ∙ ap (Replace (key_of call)) (follows was value made))

search_kind : (makes : List ℕ → List ℕ) (first : List ℕ) (stamp : ℕ) (key : List ℕ) (call : Call) (given : Reply)
    (was : Option (List ℕ)) → call ≡ Search key → Kind makes first (entry false stamp call given was)
search_kind makes first stamp key call given was is = inr (inr (subst IsSearch (sym is) refl))

-- A hand that only updates stays such a hand by a merge with this first value, whatever came of it,
pub merging : (makes : List ℕ → List ℕ) (first key : List ℕ) (returns : List ℕ → List ℕ → Type 0) (file : FileState)
    (old new : HandState) (result : Result Bool FileFault) → Follows makes returns →
    MakesAtOnce true file key old (Merges first returns) result new → IsUpdating makes first file old →
    IsUpdating makes first file new
merging makes first key returns file old new result follows =
    at_once makes first file (Merges first returns) key old new result kind
  where
    kind : (was : Option (List ℕ)) (t : Bool) (call : Call) (given : Reply) (stamp : ℕ) → key_of call ≡ key →
        Merges first returns key was t call given → Kind makes first (entry false stamp call given was)
    kind None t call given stamp by does = inr (inl (does.1 ∙ ap (λ k. Insert k first) (sym by)))
    kind (Some was) t call given stamp by does =
        by_closure makes first returns stamp key was does.0 call given follows does.1 by does.3

-- by an update,
pub updating : (makes : List ℕ → List ℕ) (first key : List ℕ) (returns : List ℕ → List ℕ → Type 0) (file : FileState)
    (old new : HandState) (result : Result Bool FileFault) → Follows makes returns →
    MakesAtOnce true file key old (Updates returns) result new → IsUpdating makes first file old →
    IsUpdating makes first file new
updating makes first key returns file old new result follows =
    at_once makes first file (Updates returns) key old new result kind
  where
    kind : (was : Option (List ℕ)) (t : Bool) (call : Call) (given : Reply) (stamp : ℕ) → key_of call ≡ key →
        Updates returns key was t call given → Kind makes first (entry false stamp call given was)
    kind None t call given stamp by does = search_kind makes first stamp key call given None does.1
    kind (Some was) t call given stamp by does =
        by_closure makes first returns stamp key was does.0 call given follows does.1 by does.3

-- and by a search.
pub searching : {T : Type 0} (makes : List ℕ → List ℕ) (first key : List ℕ) (file : FileState) (old new : HandState)
    (result : Result T FileFault) (reply_in : T → Reply) → Makes file old (Search key) result reply_in new →
    IfOk result (λ t. HasEntered false old (Search key) (reply_in t) new) → IsUpdating makes first file old →
    IsUpdating makes first file new
searching makes first key file old new (Ok t) reply_in m entered u =
    made_of makes first file new _ m.of entered.2.1
    (one_more makes first old.entries (entry false entered.0 (Search key) (reply_in t) entered.2.0)
    (acts_of makes first file old u) refl (search_kind makes first entered.0 key (Search key) (reply_in t) entered.2.0
    refl))
searching makes first key file old new (Err fault) reply_in m entered u =
    made_of makes first file new old.entries m.of m.err.entries (acts_of makes first file old u)

-- A hand that gives calls to others stays such a hand,
pub giving : (makes : List ℕ → List ℕ) (first : List ℕ) (file : FileState) (calls : ℕ) (old new : HandState) →
    new ≡ seeing old (lessened calls old.view) → IsUpdating makes first file old → IsUpdating makes first file new
giving makes first file calls old new is u =
    subst (IsUpdating makes first file) (sym is) (record {
      own = record {
        of = record {
          table = u.own.of.table;
          initial = u.own.of.initial;
          max = u.own.of.max;
          recording = u.own.of.recording;
        };
        own = u.own.own;
      };
      only = u.only;
    })

-- each that got them is one,
pub given : (makes : List ℕ → List ℕ) (first : List ℕ) (file : FileState) (calls : ℕ) (old part : HandState) →
    IsBranch calls old part → IsOf file part → IsUpdating makes first file part
given makes first file calls old part branch of =
    made_of makes first file part [] of branch.entries (none_update makes first)

-- and so is one that others were joined into, where all were.
pub joining : (makes : List ℕ → List ℕ) (first : List ℕ) (file : FileState) (hand : HandState) (others : List HandState)
    (new : HandState) → AreJoined hand others new → IsOf file new → IsUpdating makes first file hand →
    All (IsUpdating makes first file) others → IsUpdating makes first file new
joining makes first file hand others new j of u all =
    made_of makes first file new (fold united hand others).entries of j.entries
    (joined makes first hand others (acts_of makes first file hand u) (each_acts makes first file others all))
