-- `slip_writer::write` meets its contract: the amount, the fields in their order, then the room. Assumes nothing.
use Rattle.refusal.proofs.Basics.{◌∙◌, length-map}
use Rattle.std.proofs.lemmas.Result.{err_from_is_err_and}
use Rattle.slip_given.specs.Given.{texts}
use Rattle.slip_writer.proofs.Laws.{amount_refused, field_refused, fields_accepted}
use Rattle.slip_writer.proofs.Sizes.{accepted_small}
use Rattle.slip_writer.proofs.write.Goals as goal

pub returns-then-cents-ge1000000000000000 : goal.returns-then-cents-ge1000000000000000
returns-then-cents-ge1000000000000000 c = amount_refused c.args.cents (texts c.args.fields.now) c.args.out.now c.if-cents-ge1000000000000000.true

pub returns-in_err-judge_given : goal.returns-in_err-judge_given
returns-in_err-judge_given c =
    let p = err_from_is_err_and c.from_residual.result c.from_residual.ensures.1 in
    rw (p.1, p.2) (field_refused c.args.cents (texts c.args.fields.now) c.args.out.now c.if-cents-ge1000000000000000.false c.judge_given.ensures _ c.in_err-judge_given.was)

pub write_accepted-requires : goal.write_accepted-requires
write_accepted-requires c = accepted_small c.args.cents (texts c.args.fields.now) (length-map _ _ ∙ c.told-fields) c.judge_given.ensures c.in_ok-judge_given.was

pub returns : goal.returns
returns c = fields_accepted c.args.cents (texts c.args.fields.now) c.args.out.now c.if-cents-ge1000000000000000.false c.judge_given.ensures _ _ c.in_ok-judge_given.was c.write_accepted.ensures
