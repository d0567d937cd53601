-- Each test leaves one answer of the definition, and the header is written only where less than that is stored.
use mathlib.Core.Path.{refl, sym, ◌∙◌, ap}
use Rattle.rules.proofs.Restarts.{inside}
use Rattle.restart.specs.Answers.{done_with}
use Rattle.restart.proofs.Answers.{outside_is, begun_is, not_begun_is, headed_is, not_headed_is, read_leaves, header_written}
use Rattle.restart.proofs.table_of.Goals as goal

pub returns-then-outside : goal.returns-then-outside
returns-then-outside c = rw (outside_is c.args.log.now c.args.stored (sym c.is_outside-outside.ensures ∙ c.if-outside.true)) (refl, refl)

pub returns-then-begins : goal.returns-then-begins
returns-then-begins c =
    let i = inside c.args.log.now c.args.stored (sym c.is_outside-outside.ensures ∙ c.if-outside.false) in
    rw (begun_is c.args.log.now c.args.stored (sym c.is_outside-outside.ensures ∙ c.if-outside.false) c.if-stored-lt-HEADER.true (sym c.begins_header-begins.ensures ∙ c.if-begins.true))
    (ap done_with (rw c.write_header.auto.log at c.fresh-table.ensures), c.write_header.ensures ∙ header_written _ i.least)

pub returns-then-stored-lt-HEADER : goal.returns-then-stored-lt-HEADER
returns-then-stored-lt-HEADER c = rw (not_begun_is c.args.log.now c.args.stored (sym c.is_outside-outside.ensures ∙ c.if-outside.false) c.if-stored-lt-HEADER.true (sym c.begins_header-begins.ensures ∙ c.if-begins.false)) (refl, refl)

pub returns-then-begins-2 : goal.returns-then-begins-2
returns-then-begins-2 c = rw (headed_is c.args.log.now c.args.stored (sym c.is_outside-outside.ensures ∙ c.if-outside.false) c.if-stored-lt-HEADER.false (sym c.begins_header-begins-2.ensures ∙ c.if-begins-2.true)) (c.read_back.ensures, sym (read_leaves _ _))

pub returns : goal.returns
returns c = rw (not_headed_is c.args.log.now c.args.stored (sym c.is_outside-outside.ensures ∙ c.if-outside.false) c.if-stored-lt-HEADER.false (sym c.begins_header-begins-2.ensures ∙ c.if-begins-2.false)) (refl, refl)
