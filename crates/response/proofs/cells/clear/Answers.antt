use Rattle.std.proofs.Common.{◌≡◌, ◌++◌, length, replicate, take, drop, ap, ◌∙◌, rules}
use Rattle.response.specs.Rows.{cleared_to}
use Rattle.response.proofs.cells.clear.Goals as goal

pub returns : goal.returns
unfolding cleared_to
returns c =
    let n : length (take 256 c.args.cells.now) ≡ 256 = search rules in
    let filled : c.fill.new.self ≡ replicate (length (take 256 c.args.cells.now)) 0 = search (rules, c.fill.ensures.after) in
    ap (λ s. s ++ drop 256 c.args.cells.now) (filled ∙ ap (λ k. replicate k 0) n)
