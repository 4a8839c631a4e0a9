use Rattle.std.proofs.Common.{◌∙◌, ap, ap₂, Bool, ◌&&◌, ◌-◌, length}
use Rattle.std.proofs.lemmas.List.{take_rest}
use Rattle.std.specs.List.{list_all}
use Rattle.pads_json.specs.Texts.{stands}
use Rattle.pads_json.proofs.Texts.{by_ends}
use Rattle.pads_json.proofs.text.ends_stand.Goals as goal

pub returns : goal.returns
returns c =
    let points = c.args.points.now in
    record {
      all = ap₂ (λ (first last : Bool). first && last) c.run_stands-first.ensures.all (c.run_stands-last.ensures.all ∙ ap (list_all stands) (take_rest points (length points - c.args.count)))
          ∙ by_ends stands points c.args.count c.requires.covered.0 c.requires.covered.1;
    }
