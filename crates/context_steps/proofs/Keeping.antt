-- What naive evaluation of a typed program keeps.
use Rattle.std.proofs.Common.{◌≡◌}
use Rattle.context_steps.proofs.Common.{ℕ, [], Option, Some, None, slice_get, refl, sym, ap, subst, ◌∙◌, map, Program, Site, Context, ContextFits, Instance, Listener, CallerFits, Keeps}
use Rattle.typed_program.specs.Typed.{Typed}
use Rattle.typed_program.specs.declared.program.Local.{Local}
use Rattle.typed_program.specs.declared.program.Monitor.{Monitor}
use Rattle.value_shapes.specs.Fits.{AllFit}
use Rattle.term_meaning.specs.Patterns.{pattern_of}
use Rattle.term_meaning.specs.UnderWay.{left_of}
use Rattle.term_shapes.proofs.Fitting.{gone_fits}
use Rattle.context_meaning.specs.Turns.{step_at}
use Rattle.context_meaning.specs.Fits.{MayRun}
use Rattle.context_meaning.proofs.Running.{ShapesKept}
use Rattle.context_meaning.proofs.Turning.{Holds}
use Rattle.context_meaning.proofs.Kept.{kept_ondie, kept_begun, kept_onload, kept_held_callback, kept_called, kept_listener, kept_left, kept_expression, kept_completions, kept_stepped, kept_thing, kept_cargo}
use Rattle.context_steps.specs.Calls.{nothing_left}
use Rattle.context_steps.specs.Steps.{ondie_in}

ondie_keeps : (program : Program) → Typed program → ShapesKept → (i : Instance) (body : ℕ) (o : Option Monitor) → slice_get program.monitors i.monitor ≡ o → ondie_in o ≡ Some body → MayRun program body [] i
ondie_keeps program typed law i body None there is = absurd (cc)
ondie_keeps program typed law i body (Some m) there is = kept_ondie program typed law i m body there is

-- a listener of which nothing is left
abbrev bare : Listener → Listener
bare l = record l { expression = nothing_left }

-- one whose callback may run fits without its event expression
holds : (program : Program) (l : Listener) (site : Site) (c : Context) → ContextFits program c → CallerFits program l site c → Holds program (bare l) c
holds program l site c fit caller = record {
  fits = fit;
  listener = record { instance = caller.instance; site = site; there = caller.there; captured = caller.captured; expression = gone_fits program.types site.bound (pattern_of site.term); monitor = caller.monitor };
}

-- and the other way round
calls : (program : Program) (l : Listener) (site : Site) (c : Context) → slice_get program.sites l.site ≡ Some site → Holds program (bare l) c → CallerFits program l site c
calls program l site c there h =
    let both : Some h.listener.site ≡ Some site = sym h.listener.there ∙ there in
    let same : h.listener.site ≡ site = cc in
    record {
      instance = h.listener.instance;
      there = there;
      captured = subst (λ (s : Site). AllFit program.types l.captured (map (λ (n : Local). n.shape) s.captured)) same h.listener.captured;
      monitor = λ i is. h.listener.monitor i is ∙ ap (λ (s : Site). s.monitor) same;
    }

pub keeps_of : (program : Program) → Typed program → ShapesKept → Keeps program
keeps_of program typed law = record {
  ondie = λ i body is. ondie_keeps program typed law i body (slice_get program.monitors i.monitor) refl is;
  begun = kept_begun program typed law;
  onload = kept_onload program typed law;
  callback = λ l site completion c fit caller bound i found. kept_held_callback program typed law (bare l) site completion c (holds program l site c fit caller) caller.there bound i found;
  called = λ l site completion c fit caller bound. (kept_called program typed law (bare l) site completion c (holds program l site c fit caller) caller.there bound).fits;
  caller = λ l site completion c fit caller bound. calls program l site _ caller.there (kept_called program typed law (bare l) site completion c (holds program l site c fit caller) caller.there bound);
  left = λ s birth l site c fit heard live there. kept_expression program typed law birth l site (left_of l.expression (step_at program c s l site)) c fit live there (kept_left program typed law s l site c (kept_listener program typed law birth l c fit live) there heard);
  completions = λ s birth l site c fit heard live there. kept_completions program typed law s l site c (kept_listener program typed law birth l c fit live) there heard;
  stepped = kept_stepped program typed law;
  thing = kept_thing program typed law;
  cargo = kept_cargo program typed law;
}
