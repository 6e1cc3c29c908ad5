-- A call that was served, or for which there was no memory
use Rattle.std.proofs.Common.{◌≡◌, inl, inr, ℕ, ◌-◌, ◌^◌, ◌≤◌, Bool, false, ◌||◌, cond, refl, sym, ap, ap₂}
use Rattle.std.proofs.Common.{◌∙◌, subst, arith}
use Rattle.std.specs.FinMap.{empty, len, len-empty}
use Rattle.std.specs.Ordering.{nat_cmp}
use Rattle.std.specs.Cmp.Lexicographic.{slice_cmp}
use Rattle.std.specs.Prelude.{List}
use Rattle.lh_addr.specs.Settings.{Settings}
use Rattle.lh_bucket.specs.declared.call.Call.{Call}
use Rattle.lh_bucket.specs.declared.call.Reply.{Reply}
use Rattle.lh_bucket.specs.Listing.{Lists}
use Rattle.lh_bucket.specs.PlainMap.{IsInsert, Records, after, reply}
use Rattle.lh_core.specs.Listed.{IsListed}
use Rattle.lh_core.specs.Opened.{IsOpenedWorld, records_of}
use Rattle.lh_core.specs.State.{State, first}
use Rattle.lh_core.specs.Serial.{IsAtRest, IsGivenUp, IsServedOn, grows_after, size_after}
use Rattle.lh_core.specs.World.{StandsFor, WorldSeen}
use Rattle.lh_serving.specs.Answers.{AnswersCall, FileSeen, HoldsFile, file_of, first_file}
use Rattle.lh_serving.specs.declared.answer.LineAnswer.TheVariants as answer
use Rattle.lh_serving.specs.declared.answer.Fault.TheVariants as fault

-- the size of a file whose configuration and size are these
sized : (v : WorldSeen) (file : FileSeen) (c : Call) (n : ℕ) (refused : Bool) → v.config ≡ file.settings →
    v.state.buckets ≡ file.size →
    n ≡ cond refused v.state.buckets (size_after v.config (after file.map c) v.state.buckets (reply file.map c)) →
    n ≡ cond refused file.size (size_after file.settings (after file.map c) file.size (reply file.map c))
sized v file c n refused same size e =
    e
    ∙ ap₂
    (λ x k. cond refused k (size_after x (after file.map c) k (reply file.map c))) same size

-- a call that was served is answered by the plain map's reply, and the world is the file after it
pub called : (v w : WorldSeen) (n m : ℕ) (b d refused : Bool) (c : Call) (y : Reply) (file : FileSeen) →
    HoldsFile v n b file → IsServedOn v file.map c y m refused w → d ≡ (b || refused) →
    (next : FileSeen) × AnswersCall file c (answer.Reply y) next × HoldsFile w m d next
called v w n m b d refused c y file h s is = (
  record { settings = file.settings; map = after file.map c; size = w.state.buckets; missed = d },
  (
    s.replied,
    record {
      settings = refl;
      map = refl;
      refused = refused;
      size = sized v file c w.state.buckets refused h.same h.size s.size;
      asked = λ yes.
          ap₂ (λ x k. grows_after x (len (after file.map c)) k (reply file.map c)) (sym h.same) (sym h.size)
          ∙ s.asked yes;
      missed = is ∙ ap (λ x. x || refused) h.noted;
    },
  ),
  record { same = s.same ∙ h.same; rest = s.rest; stands = s.stands; count = s.count; size = refl; noted = refl },
)

-- an insert that was given up is answered that memory ran out, and the world is the same file still
pub refused : (v w : WorldSeen) (n : ℕ) (b : Bool) (c : Call) (file : FileSeen) → HoldsFile v n b file →
    IsGivenUp v w → IsInsert c →
    (next : FileSeen) × AnswersCall file c (answer.Fault fault.Memory) next × HoldsFile w n b next
refused v w n b c file h g i = (
  file,
  (refl, inl i),
  record {
    same = g.same ∙ h.same;
    rest = subst IsAtRest (sym g.state) h.rest;
    stands = g.stands file.map h.stands;
    count = h.count;
    size = ap (λ (a : State). a.buckets) g.state ∙ h.size;
    noted = h.noted;
  },
)

-- a call where 64 bits count no more records may be answered that memory ran out, and nothing changes
pub uncounted : (v : WorldSeen) (n : ℕ) (b : Bool) (c : Call) (file : FileSeen) → HoldsFile v n b file →
    2 ^ 64 - 1 ≤ n →
    (next : FileSeen) × AnswersCall file c (answer.Fault fault.Memory) next × HoldsFile v n b next
uncounted v n b c file h le = (file, (refl, inr (let e = h.count in omega (arith, e, le))), h)

-- an empty file shows none
pub shows_first : (s : Settings) (v : WorldSeen) → v.config ≡ s → v.state ≡ first s → StandsFor v empty →
    HoldsFile v 0 false (first_file s)
shows_first s v e f p = record {
  same = e;
  rest = record { workers = ap (λ (a : State). a.workers) f; splitter = ap (λ (a : State). a.splitter) f };
  stands = p;
  count = sym (len-empty (slice_cmp nat_cmp) (List ℕ));
  size = ap (λ (a : State). a.buckets) f;
  noted = refl;
}

-- an opened one its listing
pub shows_opened : (l : Lists) (v : WorldSeen) (n : ℕ) → IsOpenedWorld l v → n ≡ len (records_of l) →
    HoldsFile v n false (file_of l)
shows_opened l v n o e = record {
  same = o.config;
  rest = record { workers = ap (λ (a : State). a.workers) o.state; splitter = ap (λ (a : State). a.splitter) o.state };
  stands = o.stands;
  count = e;
  size = ap (λ (a : State). a.buckets) o.state;
  noted = refl;
}

-- a listing of a world is one of the file that it shows
pub copied : (v : WorldSeen) (n : ℕ) (b : Bool) (file : FileSeen) (l : Lists) → HoldsFile v n b file →
    ((m : Records) → StandsFor v m → IsListed v.config m v.state.buckets l) →
    IsListed file.settings file.map file.size l
copied v n b file l h f =
    subst (λ k. IsListed file.settings file.map k l) h.size
    (subst (λ s. IsListed s file.map v.state.buckets l) h.same (f file.map h.stands))
