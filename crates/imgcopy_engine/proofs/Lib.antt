mod Calling
mod LogFound
mod PagesFound
mod Seated
