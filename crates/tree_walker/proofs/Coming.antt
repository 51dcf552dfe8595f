-- What a run of a body comes to, and what its host was told.
use Rattle.std.proofs.Common.{◌≡◌, ℕ, List, [], Option, Result, Ok, Err, refl, ap, subst, ◌∙◌}
use Rattle.epl_values.specs.declared.value.Value.{Value}
use Rattle.typed_program.specs.declared.program.Program.{Program}
use Rattle.action_host.specs.declared.host.End.{End}
use Rattle.action_host.specs.declared.host.End.TheVariants as end
use Rattle.action_host.specs.Told.{Told}
use Rattle.body_meaning.specs.declared.run.Frame.{Frame}
use Rattle.body_meaning.specs.declared.run.Halt.{Halt}
use Rattle.body_meaning.specs.Runs.{State, Did}
use Rattle.body_meaning.specs.Acts.{act, come_to, end_by}
use Rattle.walk_rules.specs.declared.stop.Stop.TheVariants.{Halted}
use Rattle.walk_rules.specs.Ran.{state_of, outcome_of, Ran, Walks}
use Rattle.path_bases.specs.Tells.{Tells}
use Rattle.body_runs.specs.Comes.{Comes}

-- the variables of a body before it begins
abbrev pub begun_over : List Value → Frame
begun_over globals = record { globals = globals; locals = [] }

-- how a run ends
abbrev pub end_of : Result (Option Value) Halt → End
end_of (Ok v) = end.Done v
end_of (Err why) = end_by why

outcome_comes : (r : Result (Option Value) Halt) (did : Did) (s : State) → come_to (outcome_of r did s) ≡ record { globals = s.frame.globals; effects = did.effects; end = end_of r; scene = s.scene; draws = s.draws }
outcome_comes (Ok v) did s = refl
outcome_comes (Err why) did s = refl

module _ (program : Program) (body : ℕ) (globals locals : List Value) {old new : Told} where
  ran_comes : (f : Frame) (r : Result (Option Value) Halt) → Ran (act program body locals) old (begun_over globals) new f r → Comes program body globals locals old new f.globals (end_of r)
  ran_comes f r a = record { draws = a.draws; effects = a.did.effects; drawn = a.drawn; taken = a.taken; gives = λ rest. ap come_to (a.gives rest) ∙ outcome_comes r a.did (state_of new rest f) }

  -- a run that ended with a value
  pub walks_comes : {f : Frame} {v : Option Value} → Walks (act program body locals) old (begun_over globals) new f (Ok v) → Comes program body globals locals old new f.globals (end.Done v)
  walks_comes {f} {v} a = ran_comes f (Ok v) a.does

  -- a run that ended at once
  pub walks_comes_halted : {f : Frame} {why : Halt} → Walks (act program body locals) old (begun_over globals) new f (Err (Halted why)) → Comes program body globals locals old new f.globals (end_by why)
  walks_comes_halted {f} {why} a = ran_comes f (Err why) a.does

  comes_at : (later here : List Value) (end : End) → here ≡ later → Comes program body globals locals old new here end → Comes program body globals locals old new later end
  comes_at later here end same a = subst (λ gs. Comes program body globals locals old new gs end) same a

  -- a run that ended with a value, told of the globals
  pub tells_comes : {f : Frame} {v : Option Value} → Tells (act program body locals) old (begun_over globals) new f (Ok v) → Comes program body globals locals old new f.globals (end.Done v)
  tells_comes {f} a = comes_at f.globals a.at.globals _ a.globals (walks_comes a.walks)

  -- a run that ended at once, told of the globals
  pub tells_comes_halted : {f : Frame} {why : Halt} → Tells (act program body locals) old (begun_over globals) new f (Err (Halted why)) → Comes program body globals locals old new f.globals (end_by why)
  tells_comes_halted {f} a = comes_at f.globals a.at.globals _ a.globals (walks_comes_halted a.walks)
