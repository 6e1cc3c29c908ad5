-- The fields of a header: their numbers, the ranges that the conditions keep them in, and the first of them that is at
-- fault
use Rattle.std.proofs.Common.{◌≡◌, ◌≢◌, ℕ, ◌+◌, ◌-◌, ◌*◌, ◌<◌, ◌≤◌, inl, inr, Bool, true, false, cond, not, ◌||◌, ltb}
use Rattle.std.proofs.Common.{List, [], ◌∷◌, take, drop, Option, Some, None, refl, sym, ap, ◌∙◌, ◌↔◌, arith}
use Rattle.std.proofs.lemmas.Bool.{cases_lt, not-false}
use Rattle.std.proofs.lemmas.Bool.Decides.{nat_tests}
use Rattle.byteorder.specs.Numbers.{little_from-take}
use Rattle.byteorder.specs.Endian.{little_from}
use Rattle.lh_addr.specs.Limits.{IsInitial, IsCapacity, IsLoad, IsSize}
use Rattle.lh_image.specs.declared.fault.ImageFault.TheVariants.{HeaderField, Counts}
use Rattle.lh_image.specs.declared.header.Header.{Header}
use Rattle.lh_image.specs.Faults.{is_bad_field, is_bad_max, bad_field, bad_counts, field_rows, first_fault_of, where_so}
use Rattle.lh_image.specs.Faults.{out_of}
use Rattle.lh_image.specs.Header.{AreInRange, HasRoom}
use Rattle.lh_image.specs.Layout.{initial_offset, capacity_offset, load_offset, buckets_offset, max_offset, fields_end}
use Rattle.lh_image.specs.Version.{slots}
use Rattle.lh_image.proofs.Bytes.Header.{from_drop}
use Rattle.lh_image.proofs.Bytes.Versions.{few_slots}

-- a number in a slice of its own
pub number_in_slice : (k n : ℕ) (xs : List ℕ) → little_from 0 n (take n (drop k xs)) ≡ little_from k n xs
number_in_slice k n xs = little_from-take 0 n n (drop k xs) (omega arith) ∙ sym (from_drop k n xs)

-- ---- ranges

outside : (low high x : ℕ) → ¬ ((low ≤ x) × (x ≤ high)) → (ltb x low || ltb high x) ≡ true
outside low high x not_so = elim (cases_lt x low) [
  | inl below ↦ grind (arith, nat_tests)
  | inr from ↦ elim (cases_lt high x) [
    | inl above ↦ grind (arith, nat_tests)
    | inr to ↦ absurd (not_so (from, to))
  ]
]

inside : (low high x : ℕ) → low ≤ x → x ≤ high → (ltb x low || ltb high x) ≡ false
inside low high x from to = grind (arith, nat_tests)

within : (low high x : ℕ) → (ltb x low || ltb high x) ≡ false → (low ≤ x) × (x ≤ high)
within low high x good = (grind (arith, nat_tests), grind (arith, nat_tests))

-- an initial number of buckets out of its range is the first field at fault
pub bad_initial : (h : Header) → ¬ IsInitial h.config.initial → Some initial_offset ≡ bad_field h true
unfolding bad_field is_bad_field
bad_initial h not_so = rw (outside 1 256 h.config.initial not_so) refl

-- a capacity out of its range is the first field at fault, behind a good initial number of buckets
pub bad_capacity : (h : Header) → IsInitial h.config.initial → ¬ HasRoom h → Some capacity_offset ≡ bad_field h true
unfolding bad_field is_bad_field
bad_capacity h i not_so =
    rw (inside 1 256 h.config.initial i.0 i.1, outside 1 (slots h.version) h.config.capacity not_so) refl

-- no version has more slots than a file's pages may have
pub capacity_of : (h : Header) → HasRoom h → IsCapacity h.config.capacity
capacity_of h room = (room.0, omega (arith, room.1, few_slots h.version))

-- a load threshold out of its range is the first field at fault, behind good fields
pub bad_load : (h : Header) → IsInitial h.config.initial → HasRoom h → ¬ IsLoad h.config.load →
    Some load_offset ≡ bad_field h true
unfolding bad_field is_bad_field
bad_load h i c not_so =
    rw (
      inside 1 256 h.config.initial i.0 i.1,
      inside 1 (slots h.version) h.config.capacity c.0 c.1,
      outside 10 200 h.config.load not_so,
    ) refl

module _ (h : Header) (i : IsInitial h.config.initial) (c : HasRoom h) (l : IsLoad h.config.load) where
  -- a number of buckets out of its range is the first field at fault, behind good fields
  pub bad_buckets : out_of h.config.initial 65536 h.buckets ≡ true → Some buckets_offset ≡ bad_field h true
  unfolding bad_field is_bad_field
  bad_buckets bad =
      rw (
        inside 1 256 h.config.initial i.0 i.1,
        inside 1 (slots h.version) h.config.capacity c.0 c.1,
        inside 10 200 h.config.load l.0 l.1,
        bad,
      ) refl

  -- the last field, behind a good number of buckets
  last_field : (zeros bad : Bool) → out_of h.config.initial 65536 h.buckets ≡ false → is_bad_max h ≡ bad →
      cond bad (Some max_offset) (cond (not zeros) (Some fields_end) None) ≡ bad_field h zeros
  unfolding bad_field is_bad_field
  last_field zeros bad good last =
      rw (
        inside 1 256 h.config.initial i.0 i.1,
        inside 1 (slots h.version) h.config.capacity c.0 c.1,
        inside 10 200 h.config.load l.0 l.1,
        good,
        last,
      ) refl

  -- a greatest number of buckets out of its range is the first field at fault, behind good fields
  pub bad_size : out_of h.config.initial 65536 h.buckets ≡ false → ¬ IsSize h.config.initial h.config.max →
      Some max_offset ≡ bad_field h true
  bad_size good not_so =
      last_field true true good
      (ap (λ b. b || ltb h.config.max h.buckets) (outside h.config.initial 65536 h.config.max not_so))

  -- the same of a greatest number of buckets that is less than the number of buckets
  pub bad_max : out_of h.config.initial 65536 h.buckets ≡ false → h.config.max < h.buckets →
      Some max_offset ≡ bad_field h true
  bad_max good less = last_field true true good (above h.config.initial 65536 h.buckets h.config.max less)
    where
      above : (a b c x : ℕ) → x < c → (ltb x a || ltb b x || ltb x c) ≡ true
      above a b c x less = grind (arith, nat_tests)

  -- where all fields are in their ranges, only bytes behind them that aren't zeros are at fault
  pub fields_fit : (zeros : Bool) → out_of h.config.initial 65536 h.buckets ≡ false →
      IsSize h.config.initial h.config.max → h.buckets ≤ h.config.max →
      cond (not zeros) (Some fields_end) None ≡ bad_field h zeros
  fields_fit zeros good s le =
      last_field zeros false good (fits h.config.initial 65536 h.buckets h.config.max s.0 s.1 le)
    where
      fits : (a b c x : ℕ) → a ≤ x → x ≤ b → c ≤ x → (ltb x a || ltb b x || ltb x c) ≡ false
      fits a b c x from to more = grind (arith, nat_tests)

-- a number of buckets in its range is at least the initial one, and at most what a file may have
pub few_buckets : (b n : ℕ) → out_of n 65536 b ≡ false → (n ≤ b) × (b ≤ 65536)
few_buckets b n good = within n 65536 b good

-- ---- a header without a fault

counts_rule : (P S b n : ℕ) →
    (ltb P (1 + S) || ltb 1048576 P || ltb (b * (P - 1)) n ≡ false) ↔ ((1 + S ≤ P) × (P ≤ 1048576) × (n ≤ b * (P - 1)))
counts_rule P S b n =
    (λ e. (grind (arith, nat_tests), grind (arith, nat_tests), grind (arith, nat_tests)), λ f. grind (arith, nat_tests))

-- where the counts have no fault, there are pages for header and buckets, and no more than an image may have
pub few_pages : (h : Header) → bad_counts h ≡ false → (1 + h.buckets ≤ h.pages) × (h.pages ≤ 1048576)
unfolding bad_counts
few_pages h good = let r = (counts_rule h.pages h.buckets h.config.capacity h.records).0 good in (r.0, r.1)

-- where the header's numbers can be, there are pages
pub some_page : (h : Header) → bad_counts h ≡ false → h.pages ≢ 0
some_page h good none = omega (arith, (few_pages h good).0)

-- the counts have no fault where the numbers are in their ranges and the pages have slots for the records
pub counts_fit : (h : Header) → AreInRange h → h.records ≤ h.config.capacity * (h.pages - 1) → bad_counts h ≡ false
unfolding bad_counts
counts_fit h r most = (counts_rule h.pages h.buckets h.config.capacity h.records).1 (r.enough, r.few, most)

-- no field is at fault where the numbers are in their ranges and the bytes behind them are zeros
pub no_bad_field : (h : Header) (zeros : Bool) → AreInRange h → zeros ≡ true → bad_field h zeros ≡ None
no_bad_field h zeros r z =
    sym
    (fields_fit h r.settings.initial (r.settings.capacity.0, r.room) r.settings.load zeros
    (inside h.config.initial 65536 h.buckets r.from_initial (omega (arith, r.to_max, r.settings.max.1)))
    r.settings.max r.to_max)
    ∙ ap (λ (b : Bool). cond (not b) (Some fields_end) None) z

-- there is no answer exactly where the test that comes first fails and what comes behind it answers nothing
pub none_if : {A : Type 0} (b : Bool) (f : A) (r : Option A) → (cond b (Some f) r ≡ None) ↔ ((b ≡ false) × (r ≡ None))
none_if true f r = (λ e. absurd cc, λ p. absurd cc)
none_if false f r = (λ e. (refl, e), λ p. p.1)

max_rule : (m n s : ℕ) → (ltb m n || ltb 65536 m || ltb m s) ≡ false → (n ≤ m) × (m ≤ 65536) × (s ≤ m)
max_rule m n s e = (grind (arith, nat_tests), grind (arith, nat_tests), grind (arith, nat_tests))

-- a header without a fault has its numbers in their ranges, and zeros behind its fields
pub are_in_range : (h : Header) (zeros : Bool) → bad_field h zeros ≡ None → bad_counts h ≡ false →
    AreInRange h × (zeros ≡ true)
unfolding bad_field is_bad_field
are_in_range h zeros e few =
    let a1 = (none_if (out_of 1 256 h.config.initial) initial_offset _).0 e in
    let a2 = (none_if (out_of 1 (slots h.version) h.config.capacity) capacity_offset _).0 a1.1 in
    let capacity : HasRoom h = within 1 (slots h.version) h.config.capacity a2.0 in
    let a3 = (none_if (out_of 10 200 h.config.load) load_offset _).0 a2.1 in
    let a4 = (none_if (out_of h.config.initial 65536 h.buckets) buckets_offset _).0 a3.1 in
    let a5 = (none_if (is_bad_max h) max_offset _).0 a4.1 in
    let a6 = (none_if (not zeros) fields_end None).0 a5.1 in
    let size = max_rule h.config.max h.config.initial h.buckets a5.0 in
    let pages = few_pages h few in (
      record {
        settings = record {
          initial = within 1 256 h.config.initial a1.0;
          capacity = capacity_of h capacity;
          load = within 10 200 h.config.load a3.0;
          max = (size.0, size.1);
        };
        room = capacity.1;
        from_initial = (within h.config.initial 65536 h.buckets a4.0).0;
        to_max = size.2;
        enough = pages.0;
        few = pages.1;
      },
      not-false zeros a6.0,
    )

-- ---- what is due

-- where a field is at fault, the fault of the first such field is due
pub due_field : (h : Header) (zeros : Bool) (o : ℕ) → Some o ≡ bad_field h zeros →
    Some (HeaderField o) ≡ first_fault_of (field_rows h zeros)
unfolding first_fault_of
due_field h zeros o e = rw (← e) refl

-- a field out of its range is so whether the bytes behind the fields are zeros or not
pub due_range : (h : Header) (zeros : Bool) (o : ℕ) → Some o ≡ bad_field h true → Some o ≡ bad_field h zeros
unfolding bad_field is_bad_field
due_range h zeros o e =
    later (out_of 1 256 h.config.initial) (out_of 1 (slots h.version) h.config.capacity) (out_of 10 200 h.config.load)
    (out_of h.config.initial 65536 h.buckets) (is_bad_max h) e
  where
    later : (a b c d e : Bool) →
        Some o ≡
        cond a (Some initial_offset)
        (cond b (Some capacity_offset)
        (cond c (Some load_offset) (cond d (Some buckets_offset) (cond e (Some max_offset) None)))) →
        Some o ≡
        cond a (Some initial_offset)
        (cond b (Some capacity_offset)
        (cond c (Some load_offset)
        (cond d (Some buckets_offset)
        (cond e (Some max_offset) (cond (not zeros) (Some fields_end) None)))))
    later true b c d e is = is
    later false true c d e is = is
    later false false true d e is = is
    later false false false true e is = is
    later false false false false true is = is
    later false false false false false is = absurd cc

last_zeros : (h : Header) (zeros : Bool) → None ≡ bad_field h true →
    bad_field h zeros ≡ cond (not zeros) (Some fields_end) None
unfolding bad_field is_bad_field
last_zeros h zeros e =
    later (out_of 1 256 h.config.initial) (out_of 1 (slots h.version) h.config.capacity) (out_of 10 200 h.config.load)
    (out_of h.config.initial 65536 h.buckets) (is_bad_max h) (cond (not zeros) (Some fields_end) None) e
  where
    later : (a b c d e : Bool) (o : Option ℕ) →
        ◌≡◌ {A = Option ℕ} None
        (cond a (Some initial_offset)
        (cond b (Some capacity_offset)
        (cond c (Some load_offset) (cond d (Some buckets_offset) (cond e (Some max_offset) None))))) →
        ◌≡◌ {A = Option ℕ}
        (cond a (Some initial_offset)
        (cond b (Some capacity_offset)
        (cond c (Some load_offset) (cond d (Some buckets_offset) (cond e (Some max_offset) o))))) o
    later true b c d e o is = absurd cc
    later false true c d e o is = absurd cc
    later false false true d e o is = absurd cc
    later false false false true e o is = absurd cc
    later false false false false true o is = absurd cc
    later false false false false false o is = refl

-- behind fields that are in their ranges, bytes that aren't zeros are at fault
pub due_zeros : (h : Header) (zeros : Bool) → None ≡ bad_field h true → zeros ≡ false →
    Some fields_end ≡ bad_field h zeros
due_zeros h zeros e z = sym (last_zeros h zeros e ∙ ap (λ (b : Bool). cond (not b) (Some fields_end) None) z)

-- where no field is at fault, the fault of the counts is due, or none
pub due_counts : (h : Header) (zeros bad : Bool) → None ≡ bad_field h true → zeros ≡ true → bad ≡ bad_counts h →
    where_so bad Counts ≡ first_fault_of (field_rows h zeros)
unfolding first_fault_of
due_counts h zeros bad e z is =
    let none : bad_field h zeros ≡ None =
    last_zeros h zeros e ∙ ap (λ (b : Bool). cond (not b) (Some fields_end) None) z in
    rw (none, ← is) (by bad)
  where
    by : (b : Bool) → where_so b Counts ≡ first_fault_of (where_so b Counts ∷ [])
    by true = refl
    by false = refl
