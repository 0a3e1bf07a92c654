-- `slip_writer::write_accepted` meets its contract: the slip is its head and its fields. Assumes nothing.
use Rattle.refusal.proofs.Basics.{◌≡◌, refl, arith, ◌+◌, length}
use Rattle.text.proofs.Stands.{front_stands}
use Rattle.slip_given.specs.Given.{texts}
use Rattle.slip_writer.specs.Writer.{slip_text}
use Rattle.slip_writer.proofs.Laws.{head_of, slip_length, slip_room, slip_stands, room_refused, room_counted, room_first, room_next}
use Rattle.slip_writer.proofs.write_accepted.Goals as goal

pub size_of-size-requires : goal.size_of-size-requires
size_of-size-requires c = omega (arith, c.requires, slip_length c.args.cents (texts c.args.fields.now))

pub overflow_add-size : goal.overflow_add-size
overflow_add-size c = omega (arith, c.requires, c.size_of-size.ensures, slip_length c.args.cents (texts c.args.fields.now))

pub returns-then-out-size : goal.returns-then-out-size
returns-then-out-size c =
    let size_is : 29 + c.size_of-size.result ≡ length (slip_text c.args.cents (texts c.args.fields.now)) = omega (arith, c.size_of-size.ensures, slip_length c.args.cents (texts c.args.fields.now)) in
    (room_refused _ _ _ _ size_is (omega (arith, c.if-out-size.true)) c.nowhere.ensures, refl)

pub put_head-at-requires : goal.put_head-at-requires
put_head-at-requires c = room_first (head_of c.args.cents) (texts c.args.fields.now) 0 _ (slip_room c.args.cents (texts c.args.fields.now) _ (omega (arith, c.size_of-size.ensures, c.if-out-size.false)))

pub put_lines-requires : goal.put_lines-requires
put_lines-requires c = room_next (head_of c.args.cents) (texts c.args.fields.now) (slip_room c.args.cents (texts c.args.fields.now) _ (omega (arith, c.size_of-size.ensures, c.if-out-size.false))) c.put_head-at.ensures

pub returns : goal.returns
returns c =
    let size_is : 29 + c.size_of-size.result ≡ length (slip_text c.args.cents (texts c.args.fields.now)) = omega (arith, c.size_of-size.ensures, slip_length c.args.cents (texts c.args.fields.now)) in
    let stands = slip_stands c.args.cents (texts c.args.fields.now) c.put_head-at.ensures c.put_lines.ensures in
    (room_counted _ _ _ size_is c.if-out-size.false, front_stands _ _ (slip_text c.args.cents (texts c.args.fields.now)) _ stands (omega (arith, size_is, c.if-out-size.false)))
