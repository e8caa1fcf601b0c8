use Rattle.std.proofs.Common.{[], vec_items, ap, ◌∙◌}
use Rattle.pool.specs.Pools.{state_of, rule_of}
use Rattle.runner.proofs.Lists.{each_answered, each_same_rule, each_reached, opens_reached}
use Rattle.runner.proofs.Whole.{alone}
use Rattle.runner.proofs.run.run.Goals as goal

pub returns : goal.returns
returns g c =
    let calls = c.args.calls.now in
    let answers = vec_items c.perform_each.new.answers in
    let opens = c.in_ok-open.ensures.opens in
    let start = opens_reached c.args.pool.now c.open.new.self c.args.seats opens in
    let reached = each_reached c.open.new.self c.perform_each.new.pool calls answers c.perform_each.ensures (rule_of c.args.pool.now) (state_of c.args.pool.now) c.args.seats [] (ap g.R.HouseRule.allowed opens.rule) start in
    record {
      alone = alone (rule_of c.args.pool.now) (state_of c.args.pool.now) c.args.seats c.args.pool.now.few reached;
      runs = record {
        opened = c.open.new.self;
        opens = opens;
        withdraws = c.in_ok-open.ensures.memory;
        performs = c.perform_each.ensures;
        each = each_answered c.open.new.self c.perform_each.new.pool calls answers c.perform_each.ensures;
        rule = each_same_rule c.open.new.self c.perform_each.new.pool calls answers c.perform_each.ensures ∙ opens.rule;
        reached = reached;
      };
      refused = tt;
      unchanged = tt;
    }
