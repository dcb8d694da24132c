use Rattle.std.proofs.Common.{◌≡◌, ◌+◌, drop, sym, subst, arith}
use Rattle.lucid_lex.specs.Reading.{ReadsUpTo}
use Rattle.lucid_lex.proofs.Readings.{goes_on, stops_here, reads_all, reads_one, reads_or_stops, stops_one}
use Rattle.lucid_lex.proofs.lexer.lex.Goals as goal

-- nothing begins at the place that is reached

pub returns-in-None-clause-no_token : goal.returns-in-None-clause-no_token
returns-in-None-clause-no_token c = λ at is.
    let here = stops_here c.args.text.now c.loop-at.tokens.items c.loop-at.at c.loop-at-test.true c.loop-at.invariant.1 c.in-None.ensures in
    let same : c.loop-at.at ≡ at = cc in
    rw (← same) here

pub returns-in-None-clause-reads : goal.returns-in-None-clause-reads
returns-in-None-clause-reads c = λ ts reads.
    absurd (reads_or_stops c.args.text.now ts c.loop-at.at reads (stops_here c.args.text.now c.loop-at.tokens.items c.loop-at.at c.loop-at-test.true c.loop-at.invariant.1 c.in-None.ensures))

pub returns-in-None-clause-stops : goal.returns-in-None-clause-stops
returns-in-None-clause-stops c = λ at stops no_memory.
    let same = stops_one c.args.text.now c.loop-at.at at (stops_here c.args.text.now c.loop-at.tokens.items c.loop-at.at c.loop-at-test.true c.loop-at.invariant.1 c.in-None.ensures) stops in
    cc

pub returns-in-None-clause-one : goal.returns-in-None-clause-one
returns-in-None-clause-one c = reads_one c.args.text.now

-- a piece begins there

pub push-requires : goal.push-requires
push-requires c =
    let next = goes_on c.args.text.now c.loop-at.tokens.items c.loop-at.at c.in-Some.front c.loop-at.invariant.0 c.loop-at.invariant.1 c.in-Some.ensures in
    omega (arith, next.within)

pub returns-in_err-push-in-Some-clause-one : goal.returns-in_err-push-in-Some-clause-one
returns-in_err-push-in-Some-clause-one c = reads_one c.args.text.now

pub overflow_add-at : goal.overflow_add-at
overflow_add-at c =
    let next = goes_on c.args.text.now c.loop-at.tokens.items c.loop-at.at c.in-Some.front c.loop-at.invariant.0 c.loop-at.invariant.1 c.in-Some.ensures in
    omega (arith, next.within)

pub loop-at-smaller : goal.loop-at-smaller
loop-at-smaller c =
    let next = goes_on c.args.text.now c.loop-at.tokens.items c.loop-at.at c.in-Some.front c.loop-at.invariant.0 c.loop-at.invariant.1 c.in-Some.ensures in
    omega (arith, next.within, next.forward)

pub loop-at-preserved : goal.loop-at-preserved
loop-at-preserved c =
    let next = goes_on c.args.text.now c.loop-at.tokens.items c.loop-at.at c.in-Some.front c.loop-at.invariant.0 c.loop-at.invariant.1 c.in-Some.ensures in
    (next.within, subst (λ ts. ReadsUpTo c.args.text.now ts (drop (c.loop-at.at + c.in-Some.front.len) c.args.text.now)) (sym c.in_ok-push-in-Some.ensures.ok) next.read)

-- the end is reached

pub returns-clause-reads : goal.returns-clause-reads
returns-clause-reads c = λ ts reads. reads_one c.args.text.now c.loop-at.tokens.items ts (reads_all c.args.text.now c.loop-at.tokens.items c.loop-at.at c.loop-at-test.false c.loop-at.invariant.1) reads

pub returns-clause-stops : goal.returns-clause-stops
returns-clause-stops c = λ at stops. reads_or_stops c.args.text.now c.loop-at.tokens.items at (reads_all c.args.text.now c.loop-at.tokens.items c.loop-at.at c.loop-at-test.false c.loop-at.invariant.1) stops

pub returns-clause-one : goal.returns-clause-one
returns-clause-one c = reads_one c.args.text.now
