use Rattle.std.proofs.Common.{ap, [], ◌∷◌, ◌++◌, ◌∙◌}
use Rattle.hub_make.specs.Texts.{line_text, number_words, made_text}
use Rattle.hub_make.proofs.Joining.{whole_text}
use Rattle.hub_make.proofs.instance_text.Goals as goal

pub returns : goal.returns
returns c = record {
  text = whole_text c.from-seed.result c.from-size.result c.push_line.new.text.items c.push_coordinates.new.text.items c.push_flows.new.text.items c.extend_from_slice.new.self.items c.push_line-2.new.text.items c.in_ok-costs.costs.items
      (c.in_ok-push_line.ensures ∙ ap (λ t. t ++ line_text (number_words (c.from-size.result ∷ []))) c.new-text.ensures.items)
      c.in_ok-push_coordinates.ensures c.in_ok-push_flows.ensures c.in_ok-extend_from_slice.ensures.items c.in_ok-costs.ensures
      (c.in_ok-push_line-2.ensures ∙ ap (λ ns. c.extend_from_slice.new.self.items ++ line_text (number_words ns)) c.deref.ensures.value)
      ∙ (λ i. made_text (c.from-seed.ensures i) (c.from-size.ensures i));
}
