use Rattle.syncml_parts.proofs.Pages.{page_without_data}
use Rattle.syncml_parts.proofs.packing.pages_follow_elements.Goals as goal

pub returns-clause-data : goal.returns-clause-data
returns-clause-data c = page_without_data
