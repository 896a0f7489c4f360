-- The sheet holds, by computation. Assumes nothing.
use mathlib.Core.Path.{refl}
use Rattle.fit.specs.Reading.{alike, near}
use Rattle.fit.specs.Rule.{all_fit, sum_cost, is_place_by}
use Rattle.fit.specs.Place.{is_place}
use Rattle.fit.specs.Listing.{up_to}
use Rattle.fit.specs.Walk.{walk_by, walk}
use Rattle.fit.specs.Refusal.{question_refusal, search_refusal}
use Rattle.counters.specs.Width.{least_from, low_bits}
use Rattle.jumps.specs.Least.{greatest, least, all_below, some_below}
use Rattle.jumps.specs.Jumps.{seen_jump, lonely, lone_at, lone_jump, earlier, agrees_at, mismatch_at, mismatch_jump, full_at, full_jump}
use Rattle.comparing.specs.Order.{with_lone, falling}
use Rattle.questions.specs.Asking.{jump_answer, mismatch_refusal}
use Rattle.last.specs.Walk.{last_tries, last_next}
use Rattle.skip.specs.Walk.{probed, probes, skip_walk}
use Rattle.leaping.specs.Walk.{compared_jump, maximal_next}
use Rattle.sheet.specs.Sheet.{sheet, Holds}
use Rattle.sheet.proofs.Tables.{equal, passes, passing_holds}

pub sheet_holds : Holds sheet
unfolding equal passes alike near all_fit sum_cost is_place_by is_place up_to walk_by walk question_refusal search_refusal least_from low_bits greatest least all_below some_below seen_jump lonely lone_at lone_jump earlier agrees_at mismatch_at mismatch_jump full_at full_jump with_lone falling jump_answer mismatch_refusal last_tries last_next probed probes skip_walk compared_jump maximal_next
sheet_holds = passing_holds sheet refl
