use Rattle.std.proofs.Common.{refl}
use Rattle.bc_factor.proofs.Choice.{chosen_most, most_chosen, none_shared, none_chosen}
use Rattle.bc_factor.proofs.InCommon.{common_stands, stand_in_each, stripped_others}
use Rattle.bc_factor.proofs.Trees.{none_of_none, plain_where_none, trees_step}
use Rattle.bc_factor.proofs.laws.factored_law.Goals as goal

pub returns-clause-chosen : goal.returns-clause-chosen
returns-clause-chosen c = λ ts l. (chosen_most ts l, most_chosen ts l)

pub returns-clause-none_chosen : goal.returns-clause-none_chosen
returns-clause-none_chosen c = λ ts. (none_shared ts, none_chosen ts)

pub returns-clause-in_common : goal.returns-clause-in_common
returns-clause-in_common c = λ l ts some. (stand_in_each l ts, common_stands l ts some)

pub returns-clause-left : goal.returns-clause-left
returns-clause-left c = stripped_others

pub returns-clause-no_products : goal.returns-clause-no_products
returns-clause-no_products c = none_of_none

pub returns-clause-no_level : goal.returns-clause-no_level
returns-clause-no_level c = λ block leaves ts. refl

pub returns-clause-none_shared : goal.returns-clause-none_shared
returns-clause-none_shared c = λ block leaves levels ts none. plain_where_none block leaves levels ts (none_chosen ts none)

pub returns-clause-shared : goal.returns-clause-shared
returns-clause-shared c = λ block leaves levels l ts most. trees_step block leaves levels l ts (most_chosen ts l most)
