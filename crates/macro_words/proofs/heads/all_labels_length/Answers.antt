-- Label by label.
use Rattle.std.proofs.Common.{◌∙◌, ap, sym, map}
use Rattle.asm_base.specs.Tokens.{spelled}
use Rattle.asm_operands.specs.Operands.{begins_with_label}
use Rattle.macro_words.specs.Statements.{labels_of, behind_labels}
use Rattle.macro_words.proofs.Labels.{labels_more, behind_more, labels_all, behind_all, left_seen, two_within}
use Rattle.macro_words.proofs.heads.all_labels_length.Goals as goal

pub labels-preserved : goal.labels-preserved
labels-preserved c =
    let tokens = map spelled c.args.tokens.now in
    let is = ap begins_with_label (sym (left_seen c.args.tokens.now c.labels.at)) ∙ sym c.begins_with_label.ensures.value ∙ c.labels-test.true in
    record {
      labels = labels_more tokens c.labels.at (labels_of tokens) is c.labels.invariant.labels;
      behind = behind_more tokens c.labels.at (behind_labels tokens) is c.labels.invariant.behind;
      within = two_within c.args.tokens.now c.labels.at c.labels.invariant.within (c.begins_with_label.ensures.within c.labels-test.true);
    }

pub returns-clause-labels : goal.returns-clause-labels
returns-clause-labels c =
    let tokens = map spelled c.args.tokens.now in
    let is = ap begins_with_label (sym (left_seen c.args.tokens.now c.labels.at)) ∙ sym c.begins_with_label.ensures.value ∙ c.labels-test.false in
    labels_all tokens c.labels.at (labels_of tokens) is c.labels.invariant.labels

pub returns-clause-behind : goal.returns-clause-behind
returns-clause-behind c =
    let tokens = map spelled c.args.tokens.now in
    let is = ap begins_with_label (sym (left_seen c.args.tokens.now c.labels.at)) ∙ sym c.begins_with_label.ensures.value ∙ c.labels-test.false in
    behind_all tokens c.labels.at (behind_labels tokens) is c.labels.invariant.behind
