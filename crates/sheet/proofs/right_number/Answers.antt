-- `sheet::right_number` meets its contract: its number is above the one before it, and its text obeys. Assumes nothing.
use Rattle.refusal.proofs.Basics.{◌≡◌, sym, ◌∙◌, arith, rules, ◌≤◌, length, []}
use Rattle.text.proofs.Laws.{to_the_end}
use Rattle.slip_fields.specs.declared.Currency.TheVariants.{Euro}
use Rattle.slip_fields.specs.Fields.{field_verdict}
use Rattle.sheet.specs.Sheet.{line_number, text_start, line_text}
use Rattle.sheet.proofs.Laws.{not_above, not_obeying, obeying, text_within}
use Rattle.sheet.proofs.right_number.Goals as goal

pub returns-then-n-last : goal.returns-then-n-last
returns-then-n-last c = not_above _ c.args.p.now (rw (← c.line_number-n.ensures) c.if-n-last.true)

pub slice_bounds-judge_field-count : goal.slice_bounds-judge_field-count
slice_bounds-judge_field-count c =
    let within : c.text_start-start.result ≤ length c.args.p.now = let p = c.args.p.now in
    let e = c.line_number-n.ensures in
    rw (c.text_start-start.ensures, e) (text_within p (λ (z : line_number p ≡ 0). omega (arith, e, z, c.if-n-last.false))) in
    within

pub slice_bounds-judge_field-start : goal.slice_bounds-judge_field-start
slice_bounds-judge_field-start c =
    let within : c.text_start-start.result ≤ length c.args.p.now = let p = c.args.p.now in
    let e = c.line_number-n.ensures in
    rw (c.text_start-start.ensures, e) (text_within p (λ (z : line_number p ≡ 0). omega (arith, e, z, c.if-n-last.false))) in
    let h = within in search rules

pub returns-in-Err : goal.returns-in-Err
returns-in-Err c =
    let judged : c.judge_field.result ≡ field_verdict Euro (line_number c.args.p.now) [] (line_text c.args.p.now) = let p = c.args.p.now in
    c.judge_field.ensures ∙ rw (c.text_start-start.ensures, c.line_number-n.ensures, to_the_end (text_start (line_number p)) p) in
    let e = c.line_number-n.ensures in
    not_obeying _ c.args.p.now (rw (← e) c.if-n-last.false) _ (sym (judged) ∙ c.in-Err.is)

pub returns-in-Ok : goal.returns-in-Ok
returns-in-Ok c =
    let judged : c.judge_field.result ≡ field_verdict Euro (line_number c.args.p.now) [] (line_text c.args.p.now) = let p = c.args.p.now in
    c.judge_field.ensures ∙ rw (c.text_start-start.ensures, c.line_number-n.ensures, to_the_end (text_start (line_number p)) p) in
    let e = c.line_number-n.ensures in
    e ∙ obeying _ c.args.p.now (rw (← e) c.if-n-last.false) (sym (judged) ∙ c.in-Ok.is)
