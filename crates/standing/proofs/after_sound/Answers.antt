-- `standing::after_sound` meets its contract: the arm says the type, and a sound record has small counts. Assumes nothing.
use Rattle.refusal.proofs.Basics.{arith}
use Rattle.condition.proofs.Laws.{sound_within}
use Rattle.standing.proofs.after_sound.Goals as goal

pub overflow_add-read : goal.overflow_add-read
overflow_add-read c = omega (arith, (sound_within c.args.j c.requires).lines)

pub group_after-group-requires : goal.group_after-group-requires
group_after-group-requires c = (sound_within c.args.j c.requires).counted

pub returns-in-Group : goal.returns-in-Group
returns-in-Group c = rw (c.group_after-group.ensures, c.grow.ensures, c.growth-more.ensures, (sound_within c.args.j c.requires).tally, c.in-Group.is)

pub returns-in-Order : goal.returns-in-Order
returns-in-Order c = rw (c.group_after-group.ensures, c.grow.ensures, c.growth-more.ensures, (sound_within c.args.j c.requires).tally, c.in-Order.is)
