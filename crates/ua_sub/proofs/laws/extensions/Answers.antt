use Rattle.ua_sub.proofs.ExtensionLaws.{extension_is, graph_of}
use Rattle.ua_sub.proofs.laws.extensions.Goals as goal

pub returns : goal.returns
returns c = record { map = λ a b gens images budget pairs same m. extension_is a b gens images same budget pairs m; graph = graph_of }
