use Rattle.std.proofs.Common.{◌<◌, ◌≤◌, ◌∷◌, ◌++◌, [], length, sym, ap, ◌∙◌, subst, arith}
use Rattle.std.specs.Prelude.{slice_range, IfSome}
use Rattle.epl_lexer.specs.Tokens.{start_of}
use Rattle.span_text.specs.Place.{place_of}
use Rattle.epl_lexer.proofs.Lexed.{none_read, next_lexed, fault_told, end_told}
use Rattle.epl_lexer.proofs.lexer.tokens_of.Goals as goal

pub returns-in_default : goal.returns-in_default
returns-in_default c =
    let i = c.tokens.invariant in
    fault_told c.args.text.now c.tokens.tokens c.tokens.at c.tokens.spot i.0 c.tokens-test.true i.1 (none_read c.args.text.now c.tokens.at (sym c.in_ok-kind.ensures.token ∙ c.in_default.is)) i.2

pub tokens-preserved : goal.tokens-preserved
tokens-preserved c =
    let i = c.tokens.invariant in
    let text = c.args.text.now in
    let next = c.gap_end-next.result in
    let low = i.3 in
    let inside = c.gap_end-next.ensures.inside in
    let moved = subst (λ o. IfSome o (λ x. (c.tokens.at < x.1) × (x.1 ≤ length text))) c.in-Some.is c.in_ok-kind.ensures.inside in
    let later : start_of text ≤ next = omega (arith, low, inside.0, moved.0) in
    let grown = c.in_ok-push.ensures.ok ∙ ap (λ t. c.tokens.tokens ++ t ∷ []) c.token.ensures in
    (next_lexed text c.tokens.tokens c.push.new.self c.in-Some.kind c.tokens.at c.in-Some.to next c.tokens.spot i.0 (sym c.in_ok-kind.ensures.token ∙ c.in-Some.is) i.2 grown c.gap_end-next.ensures.gap, c.gap_end-next.ensures.ended, c.spot_past-spot-in-tokens.ensures ∙ ap (λ s. place_of (slice_range text s next)) c.start_of-start.ensures.start, later, inside.1)

pub returns : goal.returns
returns c =
    let i = c.tokens.invariant in
    let grown = c.in_ok-push-2.ensures.ok ∙ ap (λ t. c.tokens.tokens ++ t ∷ []) c.token-2.ensures in
    end_told c.args.text.now c.tokens.tokens c.push-2.new.self c.tokens.at c.tokens.spot i.0 c.tokens-test.false i.4 i.2 grown
