pub mod PutsBack
