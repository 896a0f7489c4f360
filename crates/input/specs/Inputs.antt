-- What the program reads: "one byte delta, two bytes gamma (high byte first), one byte m, m points, then the recording to the end". Assumes nothing.
use Rattle.std.specs.Prelude.{ℕ, zero, suc, ◌+◌, ◌*◌, ◌≤◌, ◌<◌, cond, ◌||◌, List, ◌⊎◌, length, get_or, take, drop, ltb}

abbrev pub delta_in : List ℕ → ℕ
delta_in input = get_or input 0 0

abbrev pub gamma_in : List ℕ → ℕ
gamma_in input = get_or input 1 0 * 256 + get_or input 2 0

abbrev pub m_in : List ℕ → ℕ
m_in input = get_or input 3 0

abbrev pub max_input : ℕ
max_input = 12000

-- No. 5: "input shorter than 4 bytes or than 4 + m, or over 12,000"
unfoldable pub of_input : List ℕ → ℕ
of_input input = cond (ltb (length input) 4 || (ltb (length input) (4 + m_in input) || ltb max_input (length input))) 5 0

abbrev pub BadInput : List ℕ → Type 0
BadInput input = (length input < 4) ⊎ ((length input < 4 + m_in input) ⊎ (max_input < length input))

-- what is known where it does not apply
pub record GoodInput (input : List ℕ) : Type 0 where
  pub long : 4 + m_in input ≤ length input
  pub short : length input ≤ max_input

-- the numbers in front of the points and 0, or the number of the refusal and zeros
pub record Front : Type 0 where
  pub refusal : ℕ
  pub delta : ℕ
  pub gamma : ℕ
  pub m : ℕ

-- by the refusal's number: the numbers in front, or the refusal's and zeros
unfoldable pub front_by : ℕ → List ℕ → Front
front_by zero input = record { refusal = 0; delta = delta_in input; gamma = gamma_in input; m = m_in input }
front_by (suc num) input = record { refusal = suc num; delta = 0; gamma = 0; m = 0 }

abbrev pub front_of : List ℕ → Front
front_of input = front_by (of_input input) input

-- the m points, and the recording behind them; nothing where the input is refused
unfoldable pub points_by : ℕ → List ℕ → List ℕ
points_by zero input = take (m_in input) (drop 4 input)
points_by (suc num) input = take 0 input

unfoldable pub recording_by : ℕ → List ℕ → List ℕ
recording_by zero input = drop (4 + m_in input) input
recording_by (suc num) input = take 0 input

abbrev pub points_in : List ℕ → List ℕ
points_in input = points_by (of_input input) input

abbrev pub recording_in : List ℕ → List ℕ
recording_in input = recording_by (of_input input) input
