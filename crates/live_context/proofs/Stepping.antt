-- A listener is stepped where it stands.
use Rattle.std.proofs.Common.{◌∷◌, ◌≡◌, ℤ, Result, Ok, Err}
use Rattle.std.specs.Prelude.{IfOk}
use Rattle.std.specs.List.{All}
use Rattle.std.proofs.lemmas.List.Elements.{All-cons, All-head, All-nil, All-tail}
use Rattle.std.proofs.lemmas.Option.{slice_get_within}
use Rattle.typed_program.specs.declared.program.Program.{Program}
use Rattle.term_meaning.specs.declared.stimulus.Stimulus.{Stimulus}
use Rattle.term_meaning.specs.UnderWay.{left_of}
use Rattle.event_terms.specs.declared.state.StepOut.{StepOut}
use Rattle.context_meaning.specs.Contexts.{Context}
use Rattle.context_meaning.specs.Fits.{ContextFits, ListenerFits}
use Rattle.live_context.specs.Places.{BornAt}
use Rattle.live_context.specs.Steps.{AreSame, HasSite, IsSame, StepsAmong, StepsBorn, StepsFound, StepsLive, StepsOne, StepsPlace, given_at}
use Rattle.live_context.proofs.Common.{ℕ, List, [], map, Option, Some, None, slice_get, slice_set, sym, ap, ◌∙◌, subst, Instance, Listener, is_born, birth_of, owner_of}
use Rattle.live_context.proofs.Lists.{found_has, map_put_same}

-- ---- what fits

site_there : (program : Program) (begun : ℕ) (is : List Instance) (ls : List Listener) → All (ListenerFits program begun is) ls → All (HasSite program) ls
site_there program begun is [] all = All-nil (HasSite program)
site_there program begun is (l ∷ ls) all =
    let fits = All-head (ListenerFits program begun is) l ls all in
    All-cons (HasSite program) l ls (slice_get_within program.sites l.site fits.site fits.there) (site_there program begun is ls (All-tail (ListenerFits program begun is) l ls all))

pub sites_there : (program : Program) (c : Context) → ContextFits program c → All (HasSite program) c.listeners
sites_there program c fits = site_there program c.begun c.instances c.listeners fits.listeners

-- ---- births and instances stay

pub same_put : (ls ms : List Listener) (at : ℕ) (old new : Listener) → slice_get ls at ≡ Some old → ms ≡ slice_set ls at new → IsSame old new → AreSame ls ms
same_put ls ms at old new is ms_is same = record {
  births = ap (map birth_of) ms_is ∙ map_put_same birth_of ls at old new is same.birth;
  owners = ap (map owner_of) ms_is ∙ map_put_same owner_of ls at old new is same.instance;
}

-- ---- steps

module _ (program : Program) (s : Stimulus) (now : ℤ) where
  pub steps_place : (at : ℕ) (ls ms : List Listener) (old new : Listener) (told : StepOut) → ms ≡ slice_set ls at new → StepsOne program s now old told new → StepsPlace program s now at ls old told ms
  steps_place at ls ms old new told ms_is one = record {
    moves = λ site there. ms_is ∙ ap (slice_set ls at) (one.moves site there);
    tells = one.tells;
  }

  pub steps_found : (birth at : ℕ) (ls ms : List Listener) (told : StepOut) (b : BornAt birth ls at) → StepsPlace program s now at ls b.found told ms → StepsFound program s now birth ls told ms
  steps_found birth at ls ms told b one = record {
    listener = b.found;
    live = b.is;
    moves = λ site there. one.moves site there ∙ sym (b.puts (left_of b.found.expression (given_at program s now b.found site)));
    tells = one.tells;
  }

pub steps_live : (program : Program) (s : Stimulus) (birth : ℕ) (c : Context) (ms : List Listener) (told : StepOut) → ContextFits program c → StepsFound program s c.clock birth c.listeners told ms → StepsLive program s birth c told (record c { listeners = ms })
steps_live program s birth c ms told fits found =
    let fit = found_has (ListenerFits program c.begun c.instances) (is_born birth) c.listeners found.listener fits.listeners found.live in
    record {
      listener = found.listener;
      live = found.live;
      site = fit.site;
      there = fit.there;
      moves = ap (λ xs. record c { listeners = xs }) (found.moves fit.site fit.there);
      tells = found.tells fit.site fit.there;
    }

pub steps_born : (program : Program) (s : Stimulus) (birth : ℕ) (c : Context) (ms : List Listener) (told : Option StepOut) → ContextFits program c → StepsAmong program s c.clock birth c.listeners told ms → StepsBorn program s birth c told (record c { listeners = ms })
steps_born program s birth c ms None fits h = (h.0, ap (λ xs. record c { listeners = xs }) h.1)
steps_born program s birth c ms (Some told) fits h = steps_live program s birth c ms told fits h

if_ok_more : {T E : Type 0} (P Q : T → Type 0) (r : Result T E) → ((x : T) → P x → Q x) → IfOk r P → IfOk r Q
if_ok_more P Q (Ok x) f h = f x h
if_ok_more P Q (Err e) f h = h

-- what is kept shows as the context
pub steps_shown : {E : Type 0} (program : Program) (s : Stimulus) (birth : ℕ) (seen c : Context) (ms : List Listener) (r : Result (Option StepOut) E) → seen ≡ c → ContextFits program c → IfOk r (λ told. StepsAmong program s seen.clock birth seen.listeners told ms) → IfOk r (λ told. StepsBorn program s birth c told (record seen { listeners = ms }))
steps_shown program s birth seen c ms r same fits =
    subst (λ (d : Context). IfOk r (λ told. StepsAmong program s d.clock birth d.listeners told ms) → IfOk r (λ told. StepsBorn program s birth c told (record d { listeners = ms }))) (sym same)
    (if_ok_more (λ told. StepsAmong program s c.clock birth c.listeners told ms) (λ told. StepsBorn program s birth c told (record c { listeners = ms })) r (λ told. steps_born program s birth c ms told fits))
