-- Laws of the program's input: 5 exactly when, and what the parts are. Assumes nothing.
use mathlib.Core.Path.{◌≡◌, refl, sym, ap, ◌∙◌}
use mathlib.Core.Bool.{Bool, true, ◌||◌}
use mathlib.Core.Logic.{◌⊎◌, inl, inr, ⊎_elim, ◌↔◌}
use mathlib.Core.List.{List}
use Prim.Native.Nat.{ℕ, zero, suc, ◌+◌, ◌-◌, ◌≤◌, ◌<◌}
use native.Mathlib.Omega.{arith}
use lib.ListN.{length, take, drop, length-drop}
use lib.Seq.{take_all, drop-drop}
use lib.Dec.{ltb}
use borrow.Author.Tests.{lt-ltb, ltb-true}
use Rattle.fit.proofs.Laws.Bools.{or_cases, or_left, or_right, is_false, le_or_lt}
use Rattle.std.specs.Prelude.{Result, Ok, Err}
use Rattle.std.specs.List.{IsSplitAt}
use Rattle.input.specs.declared.Input.{Input}
use Rattle.fit.specs.declared.refusal.Refusal.TheVariants as refusals
use Rattle.fit.specs.declared.refusal.Refusal.{Refusal}
use Rattle.fit.specs.Refused.{number_of}
use Rattle.input.specs.Told.{front_told, points_told, recording_told, Parsed}
use Rattle.input.specs.Inputs.{Front, delta_in, gamma_in, m_in, max_input, of_input, BadInput, GoodInput, front_by, front_of, points_by, points_in, recording_by, recording_in}

module _ (input : List ℕ) where
  -- the test, by its three parts
  abbrev short : Bool
  short = ltb (length input) 4

  abbrev cut : Bool
  cut = ltb (length input) (4 + m_in input)

  abbrev over : Bool
  over = ltb max_input (length input)

  tested : BadInput input → (short || (cut || over)) ≡ true
  tested (inl h) = or_left short (cut || over) (lt-ltb (length input) 4 h)
  tested (inr (inl h)) = or_right short (cut || over) (or_left cut over (lt-ltb (length input) (4 + m_in input) h))
  tested (inr (inr h)) = or_right short (cut || over) (or_right cut over (lt-ltb max_input (length input) h))

  pub input_bad : BadInput input → of_input input ≡ 5
  unfolding of_input
  input_bad b = rw (tested b)

  passes : GoodInput input → (short || (cut || over)) ≡ true → ⊥
  passes g t =
      ⊎_elim (λ e. let h = ltb-true (length input) 4 e in omega (arith, g.long))
      (λ u. ⊎_elim (λ e. let h = ltb-true (length input) (4 + m_in input) e in omega (arith, g.long)) (λ e. let h = ltb-true max_input (length input) e in omega (arith, g.short))
      (or_cases cut over u))
      (or_cases short (cut || over) t)

  pub input_good : GoodInput input → of_input input ≡ 0
  unfolding of_input
  input_good g = rw (is_false (short || (cut || over)) (passes g))

  bad_or_good : BadInput input ⊎ GoodInput input
  bad_or_good =
      ⊎_elim
      (λ (l : 4 + m_in input ≤ length input).
      ⊎_elim (λ (s : length input ≤ max_input). inr (record { long = l; short = s })) (λ (s : max_input < length input). inl (inr (inr s))) (le_or_lt (length input) max_input))
      (λ (l : length input < 4 + m_in input). inl (inr (inl l)))
      (le_or_lt (4 + m_in input) (length input))

  pub input_small : of_input input ≤ 5
  input_small = ⊎_elim (λ b. omega (arith, input_bad b)) (λ g. omega (arith, input_good g)) bad_or_good

  -- No. 5: "input shorter than 4 bytes or than 4 + m, or over 12,000", exactly when
  pub five_exactly : (of_input input ≡ 5) ↔ BadInput input
  five_exactly =
      (λ e. ⊎_elim (λ b. b) (λ g. absurd (let z : ◌≡◌ {A = ℕ} 5 0 = sym e ∙ input_good g in omega arith)) bad_or_good, input_bad)

  pub accepted_input : of_input input ≡ 0 → GoodInput input
  accepted_input e = ⊎_elim (λ b. absurd (let z : ◌≡◌ {A = ℕ} 0 5 = sym e ∙ input_bad b in omega arith)) (λ g. g) bad_or_good

  -- ---- what the parse answers
  pub refused_parse : BadInput input → Parsed input (Err refusals.BadInput)
  unfolding number_of front_by points_by recording_by
  refused_parse b = record {
    front = rw (input_bad b);
    points = rw (input_bad b);
    recording = rw (input_bad b);
  }

  abbrev behind_four : List ℕ
  behind_four = take (length input - 4) (drop 4 input)

  all_behind : behind_four ≡ drop 4 input
  all_behind = take_all (length input - 4) (drop 4 input) (omega (arith, length-drop 4 input))

  pub short_rest : 4 ≤ length input → length behind_four < m_in input → length input < 4 + m_in input
  short_rest four h = omega (arith, four, h, ap length all_behind, length-drop 4 input)

  pub accepted_parse : 4 ≤ length input → length input ≤ max_input → (i : Input) → IsSplitAt behind_four (m_in input) i.points.now i.recording.now
      → i.delta ≡ delta_in input → i.gamma ≡ gamma_in input → Parsed input (Ok i)
  unfolding front_by points_by recording_by
  accepted_parse four short i s a b =
      let long : 4 + m_in input ≤ length input = omega (arith, four, s.0, ap length all_behind, length-drop 4 input) in
      let good : of_input input ≡ 0 = input_good (record { long = long; short = short }) in
      record {
        front = rw (good, a, b, s.3);
        points = rw good (s.1 ∙ ap (take (m_in input)) all_behind);
        recording = rw good (s.2 ∙ ap (drop (m_in input)) all_behind ∙ drop-drop (m_in input) 4 input);
      }

  -- the recording is no longer than an input may be
  pub recording_short : of_input input ≡ 0 → length (recording_in input) ≤ max_input
  unfolding recording_by
  recording_short none = rw none (omega (arith, (accepted_input none).short, length-drop (4 + m_in input) input))

  -- ---- what a parse tells of the input
  front_number : (front_of input).refusal ≡ of_input input
  unfolding front_by
  front_number = by_number (of_input input)
    where
      by_number : (num : ℕ) → (front_by num input).refusal ≡ num
      by_number zero = refl
      by_number (suc num) = refl

  front_read : of_input input ≡ 0 → front_of input ≡ record { refusal = 0; delta = delta_in input; gamma = gamma_in input; m = m_in input }
  unfolding front_by
  front_read none = rw none

  pub parse_refused : {r : Refusal} → Parsed input (Err r) → number_of r ≡ of_input input
  parse_refused h = ap (λ (f : Front). f.refusal) h.front ∙ front_number

  pub no_points_lem : {r : Refusal} → Parsed input (Err r) → points_in input ≡ take 0 input
  no_points_lem h = sym h.points

  pub parse_accepted : {i : Input} → Parsed input (Ok i) → of_input input ≡ 0
  parse_accepted h = sym (ap (λ (f : Front). f.refusal) h.front ∙ front_number)

  pub parse_read : {i : Input} → Parsed input (Ok i) → (i.delta ≡ delta_in input) × (i.gamma ≡ gamma_in input)
  parse_read h =
      let read = h.front ∙ front_read (parse_accepted h) in
      (ap (λ (f : Front). f.delta) read, ap (λ (f : Front). f.gamma) read)

  -- no second answer tells anything else
  pub no_second_parse : {r r' : Result Input Refusal} → Parsed input r → Parsed input r'
      → (front_told r ≡ front_told r') × (points_told r ≡ points_told r') × (recording_told r ≡ recording_told r')
  no_second_parse h k = (h.front ∙ sym k.front, h.points ∙ sym k.points, h.recording ∙ sym k.recording)
