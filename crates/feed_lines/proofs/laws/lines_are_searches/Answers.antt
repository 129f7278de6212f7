use Rattle.feed_lines.proofs.SearchLaws.{search_means, means_search}
use Rattle.feed_lines.proofs.laws.lines_are_searches.Goals as goal

pub returns : goal.returns
returns c = record { query = λ types bits d text. (search_means types bits d text, means_search types bits d text) }
