-- What a picture means: the laws of where boxes and arrows end, and of the lanes.
use Rattle.std.proofs.Common.{◌≡◌, ℕ, zero, suc, ◌+◌, ◌<◌, ◌≤◌, Bool, true, false, if◌then◌else◌, List, [], ◌∷◌, length}
use Rattle.std.proofs.Common.{inl, inr, refl, arith}
use Rattle.std.specs.Prelude.{fold, max}
use Rattle.lh_core.specs.declared.event.Event.{Event}
use Rattle.lh_core.specs.Log.{Entry}
use Rattle.lh_replay.specs.Lanes.{ends_at, lane_count, lane_of, rows_until}
use Rattle.lh_replay.specs.Meaning.{LaneLaw, ReachLaw, Reaches, ends_row}
use Rattle.lh_replay.specs.Picture.{event_at}

-- the first step is one that ends it
first-ends : (is_lock : Bool) (lane : ℕ) (event : Event) (events : List Event) (entry : Entry) (entries : List Entry) →
    ends_at is_lock lane event entry ≡ true → Reaches is_lock lane (event ∷ events) (entry ∷ entries) 1
first-ends is_lock lane event events entry entries is = record {
  within = omega arith;
  goes_on = λ row h. absurd (omega (arith, h));
  ends = inl (0, refl, is);
}

-- the first step is another
goes-on : (is_lock : Bool) (lane : ℕ) (event : Event) (events : List Event) (entry : Entry) (entries : List Entry)
    (rows : ℕ) →
    ends_at is_lock lane event entry ≡ false → Reaches is_lock lane events entries rows →
    (row : ℕ) → row + 1 < rows + 1 → ends_row is_lock lane (event ∷ events) (entry ∷ entries) row ≡ false
goes-on is_lock lane event events entry entries rows is h zero low = is
goes-on is_lock lane event events entry entries rows is h (suc row) low = h.goes_on row (omega (arith, low))

none-ends : (is_lock : Bool) (lane : ℕ) (event : Event) (events : List Event) (entry : Entry) (entries : List Entry)
    (rows : ℕ) →
    ends_at is_lock lane event entry ≡ false →
    ((row : ℕ) → row < rows → ends_row is_lock lane events entries row ≡ false) →
    (row : ℕ) → row < rows + 1 → ends_row is_lock lane (event ∷ events) (entry ∷ entries) row ≡ false
none-ends is_lock lane event events entry entries rows is none zero low = is
none-ends is_lock lane event events entry entries rows is none (suc row) low = none row (omega (arith, low))

later-ends : (is_lock : Bool) (lane : ℕ) (event : Event) (events : List Event) (entry : Entry) (entries : List Entry)
    (rows : ℕ) →
    ends_at is_lock lane event entry ≡ false → Reaches is_lock lane events entries rows →
    Reaches is_lock lane (event ∷ events) (entry ∷ entries) (rows + 1)
later-ends is_lock lane event events entry entries rows is h = record {
  within = omega (arith, h.within);
  goes_on = goes-on is_lock lane event events entry entries rows is h;
  ends = elim h.ends [
    | inl found ↦ inl (suc found.0, omega (arith, found.1), found.2)
    | inr none ↦ inr (omega (arith, none.0), none-ends is_lock lane event events entry entries rows is none.1)
  ];
}

reaches-next : (is_lock : Bool) (lane : ℕ) (event : Event) (events : List Event) (entry : Entry) (entries : List Entry)
    (rows : ℕ) (ends : Bool) →
    ends_at is_lock lane event entry ≡ ends → Reaches is_lock lane events entries rows →
    Reaches is_lock lane (event ∷ events) (entry ∷ entries) (if ends then 1 else rows + 1)
reaches-next is_lock lane event events entry entries rows true is h =
    first-ends is_lock lane event events entry entries is
reaches-next is_lock lane event events entry entries rows false is h =
    later-ends is_lock lane event events entry entries rows is h

-- a box or an arrow reaches down to the first step that ends it, or to the last row
pub reach_law : ReachLaw
unfolding rows_until
reach_law is_lock lane [] entries same =
    record {
      within = omega arith;
      goes_on = λ row h. absurd (omega (arith, h));
      ends = inr (refl, λ row h. absurd (omega (arith, h)));
    }
reach_law is_lock lane (event ∷ events) [] same = absurd (omega (arith, same))
reach_law is_lock lane (event ∷ events) (entry ∷ entries) same =
    reaches-next is_lock lane event events entry entries (rows_until is_lock lane events entries)
    (ends_at is_lock lane event entry) refl
    (reach_law is_lock lane events entries (omega (arith, same)))

-- the lanes that are counted are no fewer than before
lanes-more : (events : List Event) (lanes : ℕ) →
    lanes ≤ fold (λ lanes event. max lanes (lane_of event + 1)) lanes events
lanes-more [] lanes = omega arith
lanes-more (event ∷ events) lanes = omega (arith, lanes-more events (max lanes (lane_of event + 1)))

lanes-all : (events : List Event) (row lanes : ℕ) → row < length events →
    lane_of (event_at events row) < fold (λ lanes event. max lanes (lane_of event + 1)) lanes events
lanes-all [] row lanes h = absurd (omega (arith, h))
lanes-all (event ∷ events) zero lanes h = omega (arith, lanes-more events (max lanes (lane_of event + 1)))
lanes-all (event ∷ events) (suc row) lanes h = lanes-all events row (max lanes (lane_of event + 1)) (omega (arith, h))

-- the lane of each step is drawn
pub lane_law : LaneLaw
unfolding lane_count
lane_law events row h = lanes-all events row 1 h
