-- `slip::first_length` meets its contract: the scan divides the text. Assumes nothing.
use Rattle.refusal.proofs.Basics.{sym, ◌∙◌, arith, length-take-le}
use Rattle.slip.specs.Slip.{piece_of}
use Rattle.text.proofs.Pieces.{split_at, split_whole}
use Rattle.slip_handed.proofs.first_length.Goals as goal

pub returns-in-Some : goal.returns-in-Some
unfolding piece_of
returns-in-Some c = let s = c.args.s.now in
    let d = split_at s _ (sym c.first_bad.ensures ∙ c.in-Some.is) in
    rw d.1 (sym (length-take-le _ s (omega (arith, d.0))))

pub returns-in-None : goal.returns-in-None
unfolding piece_of
returns-in-None c = rw (split_whole c.args.s.now (sym c.first_bad.ensures ∙ c.in-None.is))
