use Rattle.std.proofs.Common.{◌≡◌, ◌++◌, drop, map}
use Rattle.value_rules.specs.Defaults.{default_of}
use Rattle.value_steps.specs.Orderly.{AreOrderly}
use Rattle.path_bases.specs.Locals.{values_in}
use Rattle.call_walker.proofs.calls.with_defaults.Given as goal

abbrev pub invariant-loop-shape : goal.invariant-loop-shape
invariant-loop-shape l = record {
  values : values_in l.locals ++ map (default_of l.types) (drop l.shape-index l.shapes) ≡ values_in l.fn.arguments ++ map (default_of l.types) l.shapes;
  order : AreOrderly (values_in l.locals);
}
