use Rattle.std.proofs.Common.{[], map, drop}
use Rattle.epl_values.specs.declared.value.Value.{Value}
use Rattle.epl_values.specs.Order.{KeysAscend}
use Rattle.body_meaning.specs.Expressions.{or_from, and_from, xor_from, links_from, entries_behind, reach_from}
use Rattle.body_meaning.specs.Runs.{all, all_behind}
use Rattle.value_steps.specs.Orderly.{IsOrderly, AreOrderly, AreOrderlyPairs}
use Rattle.walk_rules.specs.Ran.{Leads}
use Rattle.path_bases.specs.Bases.{Stands, IsOrderlyBase}
use Rattle.path_bases.specs.Locals.{values_in, frame_of}
use Rattle.walk_laws.proofs.Reaching.{Reaching}
use Rattle.expr_walker.specs.Means.{value_by, reach_by, link_by, entry_by}
use Rattle.expr_walker.proofs.exprs.Walker.+walk.Given as goal

abbrev pub invariant-or-loop-e : goal.invariant-or-loop-e
invariant-or-loop-e g l = Leads (or_from (map (value_by l.self.program.now l.self.depth) l.rest) l.fn.first) (g.H.Host.told l.fn.host) (frame_of l.fn.globals l.self.locals.now) (or_from (map (value_by l.self.program.now l.self.depth) (drop l.e-index l.rest)) l.value) (g.H.Host.told l.host) (frame_of l.globals l.self.locals.now) × AreOrderly l.globals × IsOrderly l.value

abbrev pub invariant-and-loop-e : goal.invariant-and-loop-e
invariant-and-loop-e g l = Leads (and_from (map (value_by l.self.program.now l.self.depth) l.rest) l.fn.first) (g.H.Host.told l.fn.host) (frame_of l.fn.globals l.self.locals.now) (and_from (map (value_by l.self.program.now l.self.depth) (drop l.e-index l.rest)) l.value) (g.H.Host.told l.host) (frame_of l.globals l.self.locals.now) × AreOrderly l.globals × IsOrderly l.value

abbrev pub invariant-xor-loop-e : goal.invariant-xor-loop-e
invariant-xor-loop-e g l = Leads (xor_from (map (value_by l.self.program.now l.self.depth) l.rest) l.fn.first) (g.H.Host.told l.fn.host) (frame_of l.fn.globals l.self.locals.now) (xor_from (map (value_by l.self.program.now l.self.depth) (drop l.e-index l.rest)) l.value) (g.H.Host.told l.host) (frame_of l.globals l.self.locals.now) × AreOrderly l.globals × IsOrderly l.value

abbrev pub invariant-links-loop-link : goal.invariant-links-loop-link
invariant-links-loop-link g l = Leads (links_from (map (link_by l.self.program.now l.self.depth) l.links) l.fn.first) (g.H.Host.told l.fn.host) (frame_of l.fn.globals l.self.locals.now) (links_from (map (link_by l.self.program.now l.self.depth) (drop l.link-index l.links)) l.value) (g.H.Host.told l.host) (frame_of l.globals l.self.locals.now) × AreOrderly l.globals × IsOrderly l.value

abbrev pub invariant-values-loop-e : goal.invariant-values-loop-e
invariant-values-loop-e g l = Leads (all (map (value_by l.self.program.now l.self.depth) l.es)) (g.H.Host.told l.fn.host) (frame_of l.fn.globals l.self.locals.now) (all_behind l.values (map (value_by l.self.program.now l.self.depth) (drop l.e-index l.es))) (g.H.Host.told l.host) (frame_of l.globals l.self.locals.now) × AreOrderly l.globals × AreOrderly l.values

abbrev pub invariant-elements-loop-e : goal.invariant-elements-loop-e
invariant-elements-loop-e g l = Leads (all (map (value_by l.self.program.now l.self.depth) l.es)) (g.H.Host.told l.fn.host) (frame_of l.fn.globals l.self.locals.now) (all_behind l.elements (map (value_by l.self.program.now l.self.depth) (drop l.e-index l.es))) (g.H.Host.told l.host) (frame_of l.globals l.self.locals.now) × AreOrderly l.globals × AreOrderly l.elements

abbrev pub invariant-entries-loop-entry : goal.invariant-entries-loop-entry
invariant-entries-loop-entry g l = Leads (entries_behind [] (map (entry_by l.self.program.now l.self.depth) l.entries)) (g.H.Host.told l.fn.host) (frame_of l.fn.globals l.self.locals.now) (entries_behind l.pairs (map (entry_by l.self.program.now l.self.depth) (drop l.entry-index l.entries))) (g.H.Host.told l.host) (frame_of l.globals l.self.locals.now) × AreOrderly l.globals × KeysAscend l.pairs × AreOrderlyPairs l.pairs

abbrev pub invariant-arguments-loop-e : goal.invariant-arguments-loop-e
invariant-arguments-loop-e g l = Leads (all (map (value_by l.self.program.now l.self.depth) l.es)) (g.H.Host.told l.fn.host) (frame_of l.fn.globals l.self.locals.now) (all_behind (values_in l.lent) (map (value_by l.self.program.now l.self.depth) (drop l.e-index l.es))) (g.H.Host.told l.host) (frame_of l.globals l.self.locals.now) × AreOrderly l.globals × AreOrderly (values_in l.lent)

abbrev pub invariant-reached-loop-step : goal.invariant-reached-loop-step
invariant-reached-loop-step g l = ((v : Value) → Stands l.fn.globals l.fn.first v → Reaching (reach_from (map (reach_by l.self.program.now l.self.depth) l.steps) v) (reach_from (map (reach_by l.self.program.now l.self.depth) (drop l.step-index l.steps))) (g.H.Host.told l.fn.host) (frame_of l.fn.globals l.self.locals.now) (g.H.Host.told l.host) (frame_of l.globals l.self.locals.now) l.base) × AreOrderly l.globals × IsOrderlyBase l.base
