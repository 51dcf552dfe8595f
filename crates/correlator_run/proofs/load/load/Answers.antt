use Rattle.std.proofs.Common.{map}
use Rattle.std.specs.Prelude.{string_bytes}
use Rattle.outside.specs.Told.{files_of}
use Rattle.correlator_run.specs.declared.load.Input.{Input}
use Rattle.correlator_run.specs.Steps.{named_of}
use Rattle.correlator_run.proofs.Loading.{words_refused, events_refused, texts_refused, program_refused, items_refused, loaded}
use Rattle.correlator_run.proofs.load.load.Goals as goal

pub returns-in_err-named-clause-loads : goal.returns-in_err-named-clause-loads
returns-in_err-named-clause-loads g c =
    words_refused (λ (x : Input). (named_of x.named, (x.program, x.items))) (map string_bytes c.args.words.now) (files_of (g.H.Source.told c.args.shelf.now)) (g.H.Source.told c.args.shelf.now) c.in_err-named.field-0.0 _ c.in_err-named.ensures.read c.from_residual.ensures.1

pub returns-in_err-events-clause-loads : goal.returns-in_err-events-clause-loads
returns-in_err-events-clause-loads g c =
    events_refused (λ (x : Input). (named_of x.named, (x.program, x.items))) (map string_bytes c.args.words.now) (files_of (g.H.Source.told c.args.shelf.now)) _ (named_of c.in_ok-named.named) c.in_err-events.field-0.0 _ c.in_ok-named.ensures.read.0 c.in_err-events.ensures.read c.from_residual-in_err-events.ensures.1

pub returns-in_err-texts-clause-loads : goal.returns-in_err-texts-clause-loads
returns-in_err-texts-clause-loads g c =
    texts_refused (λ (x : Input). (named_of x.named, (x.program, x.items))) (map string_bytes c.args.words.now) (files_of (g.H.Source.told c.args.shelf.now)) _ _ (named_of c.in_ok-named.named) c.in_ok-events.events c.in_err-texts.field-0.0 _ c.in_ok-named.ensures.read.0 c.in_ok-events.ensures.read c.in_ok-events.ensures.files c.in_err-texts.ensures.read
    c.from_residual-in_err-texts.ensures.1

pub returns-in_err-program-clause-loads : goal.returns-in_err-program-clause-loads
returns-in_err-program-clause-loads g c =
    program_refused (λ (x : Input). (named_of x.named, (x.program, x.items))) (map string_bytes c.args.words.now) (files_of (g.H.Source.told c.args.shelf.now)) (g.H.Source.told c.texts_of.new.shelf) _ (named_of c.in_ok-named.named) c.in_ok-events.events c.in_ok-texts.texts c.in_err-program.field-0.0 _ c.in_ok-named.ensures.read.0 c.in_ok-events.ensures.read c.in_ok-events.ensures.files
    c.in_ok-texts.ensures.read c.in_err-program.ensures.told c.from_residual-in_err-program.ensures.1

pub returns-in_err-items-clause-loads : goal.returns-in_err-items-clause-loads
returns-in_err-items-clause-loads g c =
    items_refused (λ (x : Input). (named_of x.named, (x.program, x.items))) (map string_bytes c.args.words.now) (files_of (g.H.Source.told c.args.shelf.now)) (g.H.Source.told c.texts_of.new.shelf) _ (named_of c.in_ok-named.named) c.in_ok-events.events c.as_slice.result.now c.in_ok-texts.texts c.in_ok-program.program c.in_err-items.field-0.0 _ c.in_ok-named.ensures.read.0 c.in_ok-events.ensures.read
    c.in_ok-events.ensures.files c.in_ok-texts.ensures.read c.as_slice.ensures c.in_ok-program.ensures.told c.in_err-items.ensures.told c.from_residual-in_err-items.ensures.1

pub returns-clause-loads : goal.returns-clause-loads
returns-clause-loads g c =
    loaded (map string_bytes c.args.words.now) _ _ (named_of c.in_ok-named.named) c.in_ok-events.events c.as_slice.result.now c.in_ok-texts.texts c.in_ok-program.program c.in_ok-items.items c.in_ok-named.ensures.read.0 c.in_ok-events.ensures.read c.in_ok-events.ensures.files c.in_ok-texts.ensures.read
    c.as_slice.ensures c.in_ok-program.ensures.told c.in_ok-items.ensures.told
