use Rattle.std.proofs.Common.{◌≡◌, ◌∙◌, ◌++◌, ◌-◌, [], ap, arith, length, length-drop, take, drop}
use Rattle.std.proofs.lemmas.List.{append-nil, drop_all}
use Rattle.ft_body.proofs.StepsBack.{last_moved}
use Rattle.ft_body.proofs.blocks.move_back.Goals as goal

pub returns : goal.returns
returns c =
    let none : drop (length c.args.blocks.now - c.args.index) (drop c.args.index c.args.blocks.now) ≡ [] =
    drop_all (length c.args.blocks.now - c.args.index) (drop c.args.index c.args.blocks.now) (omega (arith, length-drop c.args.index c.args.blocks.now)) in
    ap (λ zs. take c.args.index c.args.blocks.now ++ (c.rotate_right.new.self ++ zs)) none ∙ ap (λ zs. take c.args.index c.args.blocks.now ++ zs) (append-nil c.rotate_right.new.self)
    ∙ last_moved c.args.blocks.now c.rotate_right.new.self c.args.index c.requires c.rotate_right.ensures.after
