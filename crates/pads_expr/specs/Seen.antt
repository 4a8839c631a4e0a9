-- What a lent result stands for.
use Rattle.pads_expr.specs.declared.worth.Res.{Res}
use Rattle.pads_expr.specs.declared.worth.Res.TheVariants as lent
use Rattle.pads_expr.specs.Worth.{Worth, Num, Text, Truth, Part}

abbrev pub seen : Res → Worth
seen (lent.Num number) = Num number
seen (lent.Text text) = Text text.now
seen (lent.Truth truth) = Truth truth
seen (lent.Part part) = Part part.now
