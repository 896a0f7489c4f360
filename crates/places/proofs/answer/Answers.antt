-- The report of what was read is that of the whole input: it is the whole input, or as many bytes of it as show that it is too long. It ends on its
-- page, so that all of it is written.
use Rattle.std.proofs.Common.{◌≡◌, ℕ, ◌+◌, ◌≤◌, ◌<◌, List, [], ◌++◌, Option, None, Some, IfSome, arith, rules, length, take, sym, ap, ◌∙◌, subst, append-nil, length-append}
use Rattle.std.specs.Prelude.{Result, Ok, Err, OnOk, MatchResult}
use Rattle.std.specs.Result.{is_ok}
use Rattle.std.specs.Io.KnownBytes.{Appends, Consumes, IsAtEnd}
use mathlib.Core.Logic.{inr}
use native.Mathlib.Decide.{dec_le}
use Rattle.input.specs.Inputs.{max_input}
use Rattle.input.proofs.Laws.Parses.{input_bad}
use Rattle.report.specs.Report.{report_by, report_of}
use Rattle.report.proofs.Laws.Lengths.{report_whole}
use Rattle.places.proofs.answer.Goals as goal

too_long : (x y : List ℕ) → max_input < length x → max_input < length y → report_of x ≡ report_of y
unfolding report_by
too_long x y h k = rw (input_bad x (inr (inr h)), input_bad y (inr (inr k)))

-- n bytes of an input xs were read, of which ys is left
same_report : (xs ys buf : List ℕ) (n : ℕ) → length buf ≡ max_input + 1 → n ≡ length (take n buf) → xs ≡ take n buf ++ ys → (n < length buf → ys ≡ []) → report_of (take n buf) ≡ report_of xs
same_report xs ys buf n room count split end = by_room (dec_le (length buf) n)
  where
    by_room : Dec (length buf ≤ n) → report_of (take n buf) ≡ report_of xs
    by_room (yes full) =
        let over : max_input < length (take n buf) = omega (arith, room, count, full) in
        too_long (take n buf) xs over (omega (arith, over, ap length split, length-append (take n buf) ys))
    by_room (no less) = ap report_of (sym (split ∙ ap (λ l. take n buf ++ l) (end (omega (arith, less))) ∙ append-nil (take n buf)))

written : (a b w v : Option (List ℕ)) (buf text : List ℕ) (n : ℕ) → length buf ≡ max_input + 1 → n ≡ length (take n buf) → Consumes a b (take n buf) → (n < length buf → IsAtEnd b)
    → text ≡ report_of (take n buf) → Appends w v text → IfSome a (λ input. Appends w v (report_of input))
written None b w v buf text n room count split end whole put = tt
written (Some xs) None w v buf text n room count split end whole put = absurd split
written (Some xs) (Some ys) w v buf text n room count split end whole put =
    subst (Appends w v) (whole ∙ same_report xs ys buf n room count split end) put

-- what holds where a call gave a value holds where its error was changed
ok_kept : {T E D : Type 0} (r : Result T E) (s : Result T D) {P Q : Type 0} → is_ok s ≡ is_ok r → (P → Q) → OnOk r P → OnOk s Q
ok_kept (Ok x) (Ok y) e f p = f p
ok_kept (Err x) (Ok y) e f p = cc
ok_kept r (Err y) e f p = tt

ok_was : {T E D : Type 0} (r : Result T E) (s : Result T D) (n : T) (Q : E → Type 0) → MatchResult r (λ x. s ≡ Ok x) Q → is_ok s ≡ is_ok r → s ≡ Ok n → r ≡ Ok n
ok_was (Ok x) s n Q h e f = cc
ok_was (Err x) s n Q h e f = cc

pub returns-clause-report : goal.returns-clause-report
returns-clause-report g c =
    let read : c.read_all.result ≡ Ok c.in_ok-n.n = ok_was _ _ _ _ c.map_err.ensures.cases c.map_err.ensures.variant c.in_ok-n.was in
    let whole = report_whole _ _ (search rules) (rw c.new-page.ensures.empty at c.put_report.ensures.put.put) in
    ok_kept _ _ c.map_err-2.ensures.variant
    (written _ _ _ _ c.read_all.new.buf _ c.in_ok-n.n (search rules) (rw read at c.read_all.ensures.bound).1 (rw read at c.read_all.ensures.bytes)
    (rw read at c.read_all.ensures.end) (c.written.ensures ∙ whole))
    c.write_all.ensures.bytes
