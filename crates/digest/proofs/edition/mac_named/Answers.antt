-- `edition::mac_named`: by the edition.
use Rattle.std.proofs.Common.{rules, refl, ap, ◌∙◌, arith}
use Rattle.digest.proofs.Picks.{if_eq, if_ne}
use Rattle.digest.proofs.Editions.{filtered}
use Rattle.digest.specs.Edition.{named_in, named, where_listed}
use Rattle.digest.proofs.edition.mac_named.Goals as goal

pub returns-in-1 : goal.returns-in-1
unfolding named_in
returns-in-1 c = let entry = filtered (λ e. e.older) _ _ _ (λ e b p. search rules) c.filter.ensures in
    record { exact = if_eq _ _ _ c.in-1.is (c.named.ensures ∙ ap named (entry ∙ ap (where_listed (λ e. e.older)) c.row_of.ensures)) }

pub returns-in-2 : goal.returns-in-2
unfolding named_in
returns-in-2 c = let entry = filtered (λ e. e.later) _ _ _ (λ e b p. search rules) c.filter-in-2.ensures in
    record { exact = if_ne _ c.args.edition 1 (λ e. omega arith) (if_eq _ _ _ c.in-2.is (c.named-in-2.ensures ∙ ap named (entry ∙ ap (where_listed (λ e. e.later)) c.row_of-in-2.ensures))) }

pub returns-in_default : goal.returns-in_default
unfolding named_in
returns-in_default c = record { exact = if_ne _ c.args.edition 1 (λ e. omega arith) (if_ne _ c.args.edition 2 (λ e. omega arith) refl) }
